use Rattle.std.proofs.Common.{rules, tests, nat_lt, length}
use Rattle.std.proofs.lemmas.Iterator.Search.{all_from_yields_List}
use Rattle.name_rules.proofs.Splits.{YieldsList-from_split_terminator}
use Rattle.name_rules.proofs.path.has_no_empty_part.Goals as goal

pub returns : goal.returns
returns c =
    let split = c.split_terminator.ensures in
    all_from_yields_List (λ part. nat_lt 0 (length part)) c.all.new.self _ _ c.all.ensures.ran (YieldsList-from_split_terminator c.args.rest.now split.text split.has_more split.pattern) (λ x b q k. search (rules, tests))
