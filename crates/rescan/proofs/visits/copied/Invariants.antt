use Rattle.rescan.proofs.unvisited.SetLaws.{Copies}
use Rattle.rescan.proofs.visits.copied.Given as goal

abbrev pub invariant-loop-number : goal.invariant-loop-number
invariant-loop-number l = Copies l.set l.number l.copy
