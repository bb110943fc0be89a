use Rattle.node_table.specs.Slots.{rows_of}
use Rattle.node_order.proofs.Narrowed.{AreRunsLeft}
use Rattle.node_order.proofs.order.runs_before.Given as goal

abbrev pub invariant-loop-size : goal.invariant-loop-size
invariant-loop-size g l = AreRunsLeft (rows_of l.slots.slots) l.order.runs l.folder l.name l.fn.steps l.low l.size l.steps

abbrev pub decreases-loop-size : goal.decreases-loop-size
decreases-loop-size g l = l.size
