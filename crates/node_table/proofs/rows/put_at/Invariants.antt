-- The row comes to its place in what there was, filled up, as in what there is.
use Rattle.std.proofs.Common.{◌≡◌, ◌+◌, ◌-◌, ◌≤◌, length}
use Rattle.std.specs.Vec.{vec_capacity}
use Rattle.node_table.specs.declared.row.Row.{Row}
use Rattle.node_table.specs.Rows.{empty_row}
use Rattle.node_table.specs.Slots.{with_at}
use Rattle.node_table.proofs.rows.put_at.Given as goal

abbrev pub invariant-loop-rows : goal.invariant-loop-rows
invariant-loop-rows l = record {
  filled : (row : Row) → with_at empty_row l.rows.items l.place row ≡ with_at empty_row l.fn.rows.items l.place row;
  capacity : vec_capacity l.fn.rows ≤ vec_capacity l.rows;
}

abbrev pub decreases-loop-rows : goal.decreases-loop-rows
decreases-loop-rows l = l.place + 1 - length l.rows.items
