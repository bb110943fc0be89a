use Rattle.std.proofs.Common.{◌≡◌, ◌+◌, ◌*◌, ◌≤◌, length}
use Rattle.tree_walk.specs.Walk.{AreOutside, AreThere, left}
use Rattle.file_jobs.proofs.FindLaws.{Finds}
use Rattle.file_jobs.proofs.finding.find.Given as goal

abbrev pub invariant-loop-walk : goal.invariant-loop-walk
invariant-loop-walk g l = record {
  there : AreThere l.tree.nodes l.walk;
  outside : AreOutside l.tree.nodes l.to l.walk;
  bound : l.found.bound ≡ l.tree.size.nodes;
  finds : Finds l.tree.nodes l.from l.to l.expiry l.walk l.found.members;
  looks : l.steps + (1 + 3 * left l.tree.nodes l.walk) ≤ l.fn.steps + (length l.walk + 3 * length l.tree.nodes);
}

abbrev pub decreases-loop-walk : goal.decreases-loop-walk
decreases-loop-walk g l = left l.tree.nodes l.walk
