-- Entries in their order, of which one may have gone.
use Rattle.std.specs.Prelude.{◌≡◌, ℕ, ◌+◌, ◌-◌, ◌<◌, ◌≤◌, ◌==◌, nat_le, nat_lt, true, IfSome, List, Option, Some, None, length, remove, if◌then◌else◌}
use Rattle.fsrm_base.specs.Keyed.{is_ascending}
use Rattle.row_table.specs.declared.index.Entry.{Entry}
use Rattle.row_table.specs.Indexed.{AreIndexed, number_of}

-- those that are there
abbrev pub living : Option ℕ → List Entry → List Entry
living None order = order
living (Some place) order = remove order place

-- where the one at a place among those that are there stands
abbrev pub place_in : Option ℕ → ℕ → ℕ
place_in None place = place
place_in (Some gone) place = if nat_le gone place then place + 1 else place

-- the place among those that are there of the one that stands at a place
abbrev pub place_among : Option ℕ → ℕ → Option ℕ
place_among None place = Some place
place_among (Some gone) place = if gone == place then None else if nat_lt gone place then Some (place - 1) else Some place

-- the entries ascend, also with the one that has gone
pub record IsOrder (order : List Entry) (gone : Option ℕ) (room capacity : ℕ) : Type 0 where
  pub held : AreIndexed (record { entries = living gone order; room = room })
  pub ascending : is_ascending number_of order ≡ true
  pub there : IfSome gone (λ place. place < length order)
  pub memory : room ≤ capacity
