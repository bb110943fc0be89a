use Rattle.std.proofs.Common.{◌≡◌, [], drop}
use Rattle.volume_tree.specs.Kept.{rows_of}
use Rattle.volume_tree.specs.Late.{AreEntered}
use Rattle.volume_tree.proofs.register.put_all.Given as goal

abbrev pub invariant-loop-entry : goal.invariant-loop-entry
invariant-loop-entry l = record {
  entered : AreEntered (rows_of l.slots.slots) [] l.order (drop l.entry-index l.late);
  room : l.order.room ≡ l.fn.order.room;
}
