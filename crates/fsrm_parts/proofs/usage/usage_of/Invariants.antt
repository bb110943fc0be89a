use Rattle.std.proofs.Common.{◌≡◌, ◌+◌, ◌*◌, ◌≤◌, false, [], length}
use Rattle.fsrm_model.specs.nodes.Tree.{is_folder, under, usage}
use Rattle.fsrm_parts.specs.Walk.{usage_of_all, under_all}
use Rattle.fsrm_parts.proofs.walks.SumLaws.{AreFolders}
use Rattle.fsrm_parts.proofs.usage.usage_of.Given as goal

-- each node was looked at, and each visit takes a look, and one more for each child. A file has no folder that waits
abbrev pub invariant-loop-folder : goal.invariant-loop-folder
invariant-loop-folder g l = record {
  folders : AreFolders l.tree.nodes l.pending.items;
  none : is_folder l.tree.nodes l.node ≡ false → l.pending.items ≡ [];
  sum : l.total + usage_of_all l.tree.size l.tree.nodes l.pending.items ≡ usage l.tree.size l.tree.nodes l.node;
  looks : l.steps + 3 * under_all l.tree.nodes l.pending.items ≤ l.fn.steps + (3 * length (under l.tree.nodes l.node) + 2 * length l.pending.items);
}

abbrev pub decreases-loop-folder : goal.decreases-loop-folder
decreases-loop-folder g l = under_all l.tree.nodes l.pending.items
