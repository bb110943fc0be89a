use Rattle.std.proofs.Common.{◌≡◌, ◌≤◌, true, length, take, drop}
use Rattle.volume_tree.specs.Kept.{rows_of, AreSlots}
use Rattle.volume_tree.specs.Sound.{are_from}
use Rattle.volume_tree.proofs.rows.filled.Given as goal

abbrev pub invariant-loop-row : goal.invariant-loop-row
invariant-loop-row l = record {
  nodes_are : l.slots.nodes ≡ l.fn.size.nodes;
  names_are : l.slots.names ≡ l.fn.size.names;
  slots_are : AreSlots 0 l.slots.slots;
  taken : rows_of l.slots.slots ≡ take l.row-index l.rows;
  rest : are_from (length l.slots.slots) l.fn.size.nodes (drop l.row-index l.rows) ≡ true;
  fit : length l.slots.slots ≤ l.fn.size.nodes;
}
