use Rattle.std.proofs.Common.{rules, nat_lt}
use Rattle.std.proofs.lemmas.Fn.{always_returns_same}
use Rattle.row_rules.proofs.Adjacent.{adjacent}
use Rattle.row_rules.proofs.keys.ascend.Goals as goal

pub returns : goal.returns
returns g c =
    adjacent g.K.Key.key c.args.rows.now c.is_sorted_by.result
    (c.is_sorted_by.ensures.cases (λ a b. nat_lt (g.K.Key.key a) (g.K.Key.key b)) (always_returns_same _ _ _ (λ a r f k. search rules)))
