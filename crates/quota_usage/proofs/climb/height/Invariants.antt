use Rattle.std.proofs.Common.{◌≡◌, ◌+◌, length}
use Rattle.fsrm_model.specs.nodes.Tree.{chain}
use Rattle.quota_usage.proofs.climb.height.Given as goal

abbrev pub invariant-loop-at : goal.invariant-loop-at
invariant-loop-at g l = record {
  so_far : l.height + length l.way ≡ length (chain l.tree.nodes l.node);
  looks : l.steps + length l.way ≡ l.fn.steps + length (chain l.tree.nodes l.node);
}

abbrev pub decreases-loop-at : goal.decreases-loop-at
decreases-loop-at g l = length l.way
