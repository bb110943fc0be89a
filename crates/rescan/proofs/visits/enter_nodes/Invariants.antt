use Rattle.std.proofs.Common.{◌≡◌, ◌+◌, take}
use Rattle.rescan.proofs.unvisited.EnterLaws.{Entered}
use Rattle.rescan.proofs.visits.enter_nodes.Given as goal

abbrev pub invariant-loop-place : goal.invariant-loop-place
invariant-loop-place g l = record {
  entered : Entered l.tree.size l.tree.nodes (take l.place l.siblings) l.fn.set l.set l.bytes;
  looks : l.steps ≡ l.fn.steps + l.place;
}
