use Rattle.std.proofs.Common.{◌≡◌}
use Rattle.fsrm_base.specs.Numbers.{is_in}
use Rattle.fsrm_model.specs.nodes.Tree.{chain_in, is_under}
use Rattle.volume_tree.specs.Kept.{rows_of}
use Rattle.volume_tree.specs.Sound.{Reaches}
use Rattle.volume_tree.proofs.rows.is_rooted.Given as goal

abbrev pub invariant-loop-left : goal.invariant-loop-left
invariant-loop-left l = record {
  up : Reaches (rows_of l.slots.slots) l.at → Reaches (rows_of l.slots.slots) l.number;
  same : is_in (chain_in l.left (rows_of l.slots.slots) l.at) 0 ≡ is_under (rows_of l.slots.slots) 0 l.number;
}

abbrev pub decreases-loop-left : goal.decreases-loop-left
decreases-loop-left l = l.left
