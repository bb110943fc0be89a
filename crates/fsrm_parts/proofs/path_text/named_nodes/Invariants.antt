use Rattle.std.proofs.Common.{◌≡◌, ◌+◌, ◌++◌, length}
use Rattle.fsrm_model.specs.nodes.Tree.{chain}
use Rattle.fsrm_parts.specs.Walk.{AreThere}
use Rattle.fsrm_parts.proofs.walks.PathTexts.{named}
use Rattle.fsrm_parts.proofs.path_text.named_nodes.Given as goal

-- the nodes that were kept, and then those with a name of what is left, are those of the whole way
abbrev pub invariant-loop-at : goal.invariant-loop-at
invariant-loop-at g l = record {
  there : AreThere l.tree.nodes l.nodes.items;
  left : AreThere l.tree.nodes l.way;
  way : l.nodes.items ++ named l.way ≡ named (chain l.tree.nodes l.node);
  looks : l.steps + length l.way ≡ l.fn.steps + length (chain l.tree.nodes l.node);
}

abbrev pub decreases-loop-at : goal.decreases-loop-at
decreases-loop-at g l = length l.way
