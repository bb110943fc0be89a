use Rattle.std.proofs.Common.{◌≡◌, ◌+◌, ◌*◌, ◌≤◌, ◌++◌, ◌&&◌, length}
use Rattle.std.specs.Prelude.{filter}
use Rattle.fsrm_model.specs.nodes.Tree.{is_folder}
use Rattle.fsrm_parts.specs.Applying.{gets_one}
use Rattle.fsrm_parts.specs.Walk.{AreThere}
use Rattle.fsrm_parts.proofs.autos.put_all_given.Given as goal

abbrev pub invariant-loop-siblings : goal.invariant-loop-siblings
invariant-loop-siblings g l = record {
  there : AreThere l.tree.nodes l.children;
  folders : l.folders.items ++ filter (λ child. is_folder l.tree.nodes child && gets_one l.tree.nodes l.objects.quotas l.row child) l.children ≡ l.fn.folders.items ++ filter (λ child. is_folder l.tree.nodes child && gets_one l.tree.nodes l.objects.quotas l.row child) l.fn.children;
  looks : l.steps + 2 * length l.children ≤ l.fn.steps + 2 * length l.fn.children;
}

abbrev pub decreases-loop-siblings : goal.decreases-loop-siblings
decreases-loop-siblings g l = length l.children
