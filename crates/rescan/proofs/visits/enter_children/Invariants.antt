use Rattle.std.proofs.Common.{◌≡◌, ◌+◌, ◌*◌, ◌≤◌, ◌++◌, ℕ, List, length, map}
use Rattle.fsrm_model.specs.nodes.Tree.{number, children, children_in_order}
use Rattle.rescan.proofs.unvisited.EnterLaws.{Entered}
use Rattle.rescan.proofs.visits.enter_children.Given as goal

abbrev pub invariant-loop-siblings : goal.invariant-loop-siblings
invariant-loop-siblings g l = record {
  parts : (first : List ℕ) × (first ++ l.children ≡ map number (children_in_order l.tree.nodes l.folder)) × Entered l.tree.size l.tree.nodes first l.fn.set l.set l.bytes;
  looks : l.steps + 2 * length l.children ≤ l.fn.steps + (1 + 2 * length (children l.tree.nodes l.folder));
}

abbrev pub decreases-loop-siblings : goal.decreases-loop-siblings
decreases-loop-siblings g l = length l.children
