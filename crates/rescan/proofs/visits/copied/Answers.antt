use Rattle.std.proofs.Common.{◌+◌, sym, subst, ◌∙◌, arith}
use Rattle.rescan.proofs.unvisited.SetLaws.{Copies, copied_in, copied_out, all_copied}
use Rattle.rescan.proofs.visits.copied.Goals.{then-contains, else-contains}
use Rattle.rescan.proofs.visits.copied.Goals as goal

pub loop-number-preserved : goal.loop-number-preserved
loop-number-preserved c = elim c.if-contains.branch [
  | then-contains w ↦ copied_in c.args.set.now c.loop-number.number c.loop-number.copy c.if-contains.copy c.loop-number.invariant (sym w.if-contains.ensures) (w.copy-is ∙ w.insert.ensures)
  | else-contains w ↦ subst (Copies c.args.set.now (c.loop-number.number + 1)) (sym w.copy-is) (copied_out c.args.set.now c.loop-number.number c.loop-number.copy c.loop-number.invariant (sym w.if-contains.ensures))
]

pub returns : goal.returns
returns c = all_copied c.args.set.now c.loop-number.number c.loop-number.copy (omega (arith, c.bound-number-end.ensures)) c.requires.set c.requires.below c.loop-number.invariant
