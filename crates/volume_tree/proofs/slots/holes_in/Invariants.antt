use Rattle.std.proofs.Common.{◌≡◌}
use Rattle.volume_tree.specs.Kept.{rows_of}
use Rattle.volume_tree.proofs.slotted.HoleLaws.{AreBelow}
use Rattle.volume_tree.proofs.slots.holes_in.Given as goal

abbrev pub invariant-loop-number : goal.invariant-loop-number
invariant-loop-number l = record {
  holes : AreBelow (rows_of l.slots.slots) l.number l.holes.members;
  bound : l.holes.bound ≡ l.bound;
}
