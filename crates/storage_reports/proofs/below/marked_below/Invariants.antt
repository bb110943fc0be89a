use Rattle.std.proofs.Common.{◌≡◌, ◌+◌, ◌*◌, ◌≤◌, length}
use Rattle.fsrm_model.specs.nodes.Tree.{under}
use Rattle.storage_reports.specs.Marks.{Marks}
use Rattle.tree_walk.specs.Walk.{AreThere, left}
use Rattle.storage_reports.proofs.below.marked_below.Given as goal

abbrev pub invariant-loop-walk : goal.invariant-loop-walk
invariant-loop-walk g l = record {
  there : AreThere l.tree.nodes l.walk;
  marks : Marks l.tree.nodes l.scope l.walk l.marks.items;
  len : length l.marks.items ≡ l.tree.size.nodes;
  looks : l.steps + (1 + 3 * left l.tree.nodes l.walk) ≤ l.fn.steps + (length l.walk + 3 * length (under l.tree.nodes l.scope));
}

abbrev pub decreases-loop-walk : goal.decreases-loop-walk
decreases-loop-walk g l = left l.tree.nodes l.walk
