use Rattle.std.proofs.Common.{◌≡◌, ◌+◌, ◌≤◌, ◌++◌, ◌&&◌, take}
use Rattle.std.specs.Prelude.{filter}
use Rattle.fsrm_model.specs.nodes.Tree.{is_folder}
use Rattle.fsrm_parts.specs.Applying.{gets_one}
use Rattle.fsrm_parts.proofs.autos.put_given.Given as goal

-- those of the first children
abbrev pub invariant-loop-place : goal.invariant-loop-place
invariant-loop-place g l = record {
  folders : l.folders.items ≡ l.fn.folders.items ++ filter (λ child. is_folder l.tree.nodes child && gets_one l.tree.nodes l.objects.quotas l.row child) (take l.place l.siblings);
  looks : l.steps ≤ l.fn.steps + l.place;
}
