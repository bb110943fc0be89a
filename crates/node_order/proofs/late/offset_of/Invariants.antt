use Rattle.std.proofs.Common.{length}
use Rattle.block_list.specs.Runs.{entries_of, start_of}
use Rattle.fsrm_model.specs.nodes.Tree.{name_of}
use Rattle.node_table.specs.Slots.{rows_of}
use Rattle.node_order.proofs.Sought.{AreEntriesSought}
use Rattle.node_order.proofs.late.offset_of.Given as goal

abbrev pub invariant-loop-size : goal.invariant-loop-size
invariant-loop-size l = AreEntriesSought (rows_of l.slots.slots) (entries_of l.order.runs) l.entry.parent (name_of (rows_of l.slots.slots) l.entry.node) (start_of l.order.runs l.run) (length l.entries) l.low l.size

abbrev pub decreases-loop-size : goal.decreases-loop-size
decreases-loop-size l = l.size
