use Rattle.std.proofs.Common.{sym, ◌∙◌}
use Rattle.std.proofs.lemmas.Option.{same_Some}
use Rattle.volume_tree.specs.Kept.{rows_of}
use Rattle.volume_tree.proofs.late.RowsTwins.{is_twin, none_some, not_twin}
use Rattle.volume_tree.proofs.rows.holds_twin.Goals as goal

pub returns-in-Some-clause-twin : goal.returns-in-Some-clause-twin
returns-in-Some-clause-twin c = is_twin (rows_of c.args.slots.now.slots) c.args.row.now c.in-Some.number c.is_twin.result c.is_twin.ensures

pub returns-in-Some-clause-none : goal.returns-in-Some-clause-none
returns-in-Some-clause-none c =
    λ e n h other. not_twin (rows_of c.args.slots.now.slots) c.args.row.now c.in-Some.number n c.is_twin.result c.is_twin.ensures e (same_Some _ _ (sym c.in-Some.is ∙ c.find.ensures n h)) other

pub returns-in-None-clause-none : goal.returns-in-None-clause-none
returns-in-None-clause-none c = λ e n h other. absurd (none_some c.find.result n c.in-None.is (c.find.ensures n h))
