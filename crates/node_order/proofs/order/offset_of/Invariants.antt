use Rattle.std.proofs.Common.{length}
use Rattle.block_list.specs.Runs.{entries_of, start_of}
use Rattle.node_table.specs.Slots.{rows_of}
use Rattle.node_order.proofs.Narrowed.{AreEntriesLeft}
use Rattle.node_order.proofs.order.offset_of.Given as goal

abbrev pub invariant-loop-size : goal.invariant-loop-size
invariant-loop-size g l = AreEntriesLeft (rows_of l.slots.slots) (entries_of l.order.runs) l.folder l.name (start_of l.order.runs l.run) (length l.entries) l.fn.steps l.low l.size l.steps

abbrev pub decreases-loop-size : goal.decreases-loop-size
decreases-loop-size g l = l.size
