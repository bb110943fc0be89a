use Rattle.std.proofs.Common.{◌≡◌, ◌+◌, length}
use Rattle.fsrm_base.specs.Numbers.{is_in}
use Rattle.fsrm_model.specs.nodes.Tree.{chain}
use Rattle.volume_tree.specs.Kept.{rows_of}
use Rattle.volume_tree.specs.Looks.{passed}
use Rattle.volume_tree.proofs.climb.is_at_or_below.Given as goal

abbrev pub invariant-loop-at : goal.invariant-loop-at
invariant-loop-at g l = record {
  same : is_in l.way l.node ≡ is_in (chain (rows_of l.slots.slots) l.folder) l.node;
  count : l.steps + passed l.node l.way ≡ l.fn.steps + passed l.node (chain (rows_of l.slots.slots) l.folder);
  looks : l.steps + length l.way ≡ l.fn.steps + length (chain (rows_of l.slots.slots) l.folder);
}

abbrev pub decreases-loop-at : goal.decreases-loop-at
decreases-loop-at g l = length l.way
