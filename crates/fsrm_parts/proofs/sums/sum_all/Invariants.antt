use Rattle.std.proofs.Common.{◌≡◌, ◌+◌, ◌*◌, ◌≤◌, [], length}
use Rattle.fsrm_model.specs.nodes.Tree.{under, usage}
use Rattle.fsrm_parts.specs.Walk.{under_all, usage_of_all}
use Rattle.fsrm_parts.proofs.walks.SumLaws.{AreFolders}
use Rattle.fsrm_parts.specs.Tasks.{AreDue, AreSummed, end_count, folders_of}
use Rattle.fsrm_parts.proofs.sums.sum_all.Given as goal

-- each folder was looked at, and each visit takes a look, and two more for each child
abbrev pub invariant-loop-task : goal.invariant-loop-task
invariant-loop-task g l = record {
  size : length l.sums ≡ length l.objects.quotas;
  none : l.walk.folders.items ≡ [];
  folders : AreFolders l.tree.nodes (folders_of l.walk.tasks.items);
  sum : l.total + usage_of_all l.tree.size l.tree.nodes (folders_of l.walk.tasks.items) ≡ usage l.tree.size l.tree.nodes 0;
  due : AreDue l.tree.size l.tree.nodes l.objects.quotas l.total l.walk.tasks.items;
  summed : AreSummed l.tree.size l.tree.nodes l.objects.quotas l.walk.tasks.items l.sums;
  looks : l.steps + 3 * under_all l.tree.nodes (folders_of l.walk.tasks.items) ≤ l.fn.steps + (3 * length (under l.tree.nodes 0) + 2 * length (folders_of l.walk.tasks.items));
}

abbrev pub decreases-loop-task : goal.decreases-loop-task
decreases-loop-task g l = 2 * under_all l.tree.nodes (folders_of l.walk.tasks.items) + end_count l.walk.tasks.items
