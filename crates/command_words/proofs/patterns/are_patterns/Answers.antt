use Rattle.std.proofs.Common.{rules, tests, lit<}
use Rattle.std.proofs.lemmas.Iterator.Search.{all_from_yields_List}
use Rattle.std.proofs.lemmas.Iterator.Splits.{YieldsList-from_str_split}
use Rattle.fsrm_model.specs.values.Patterns.{is_pattern}
use Rattle.command_words.proofs.patterns.are_patterns.Goals as goal

pub returns : goal.returns
returns c =
    let split = c.split.ensures in
    all_from_yields_List is_pattern c.all.new.self _ _ c.all.ensures.ran (YieldsList-from_str_split 124 c.args.text.now (lit< tt) split.text split.has_more split.pattern) (λ x b q k. search (rules, tests))
