use Rattle.std.proofs.Common.{◌≡◌, ◌+◌, ◌*◌, ◌++◌, length}
use Rattle.std.specs.Prelude.{sum_by}
use Rattle.rescan.specs.Visits.{folders_among, space_of}
use Rattle.fsrm_parts.specs.Walk.{AreThere}
use Rattle.fsrm_parts.proofs.usage.put.Given as goal

abbrev pub invariant-loop-siblings : goal.invariant-loop-siblings
invariant-loop-siblings g l = record {
  there : AreThere l.tree.nodes l.children;
  sum : l.bytes + sum_by (space_of l.tree.size l.tree.nodes) l.children ≡ sum_by (space_of l.tree.size l.tree.nodes) l.fn.children;
  folders : l.pending.items ++ folders_among l.tree.nodes l.children ≡ l.fn.pending.items ++ folders_among l.tree.nodes l.fn.children;
  looks : l.steps + 2 * length l.children ≡ l.fn.steps + 2 * length l.fn.children;
}

abbrev pub decreases-loop-siblings : goal.decreases-loop-siblings
decreases-loop-siblings g l = length l.children
