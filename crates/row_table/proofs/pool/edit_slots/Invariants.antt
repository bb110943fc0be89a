use Rattle.std.proofs.Common.{◌≡◌, ◌++◌, drop, map, take}
use Rattle.std.specs.Prelude.{option_map}
use Rattle.row_table.proofs.pool.edit_slots.Given as goal

abbrev pub invariant-loop-slot : goal.invariant-loop-slot
invariant-loop-slot g l = l.slots ≡ map (option_map (g.E.Edit.edited l.edit)) (take l.slot l.initial.slots) ++ drop l.slot l.initial.slots
