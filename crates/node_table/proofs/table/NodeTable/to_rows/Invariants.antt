-- The rows of the slots so far.
use Rattle.std.proofs.Common.{◌≡◌, take}
use Rattle.node_table.specs.Slots.{rows_of}
use Rattle.node_table.proofs.table.NodeTable.to_rows.Given as goal

abbrev pub invariant-loop-number : goal.invariant-loop-number
invariant-loop-number l = l.rows ≡ rows_of (take l.number l.self.slots)
