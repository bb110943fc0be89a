use Rattle.std.proofs.Common.{◌≡◌, ◌+◌, ◌≤◌, ◌++◌, length}
use Rattle.std.specs.Prelude.{map}
use Rattle.std.specs.String.{string_bytes}
use Rattle.fsrm_model.specs.nodes.Tree.{name_of}
use Rattle.fsrm_parts.proofs.walks.PathTexts.{slashed}
use Rattle.fsrm_parts.proofs.path_text.joined.Given as goal

abbrev pub invariant-loop-node : goal.invariant-loop-node
invariant-loop-node g l = record {
  text : string_bytes l.text ≡ string_bytes l.initial.text ++ slashed (map (name_of l.tree.nodes) (map (λ y. y.now) l.yielded));
  looks : l.steps ≤ l.fn.steps + length l.yielded;
}
