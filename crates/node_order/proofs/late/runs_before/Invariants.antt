use Rattle.fsrm_model.specs.nodes.Tree.{name_of}
use Rattle.node_table.specs.Slots.{rows_of}
use Rattle.node_order.proofs.Sought.{AreRunsSought}
use Rattle.node_order.proofs.late.runs_before.Given as goal

abbrev pub invariant-loop-size : goal.invariant-loop-size
invariant-loop-size l = AreRunsSought (rows_of l.slots.slots) l.order.runs l.entry.parent (name_of (rows_of l.slots.slots) l.entry.node) l.low l.size

abbrev pub decreases-loop-size : goal.decreases-loop-size
decreases-loop-size l = l.size
