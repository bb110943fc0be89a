-- Which number has which slot.
use Rattle.std.specs.Prelude.{◌≡◌, ℕ, ◌<◌, ◌≤◌, nat_lt, true, List, length, slice_index_or, Option, Some, None, option_map}
use Rattle.std.specs.List.{list_all}
use Rattle.fsrm_base.specs.Keyed.{is_ascending, row_of}
use Rattle.row_table.specs.declared.index.Entry.{Entry}

abbrev pub number_of : Entry → ℕ
number_of entry = entry.number

abbrev pub slot_of : Entry → ℕ
slot_of entry = entry.slot

-- the slot of a number
abbrev pub slot_in : List Entry → ℕ → Option ℕ
slot_in entries n = option_map slot_of (row_of number_of n entries)

-- the entries, ascending by number, and for how many there is memory
pub record Indexed : Type 0 where
  pub entries : List Entry
  pub room : ℕ

-- what is noted of a number: its slot, or 65535, which is none
abbrev pub noted : Option Entry → ℕ
noted None = 65535
noted (Some entry) = entry.slot

-- notes to which others, of numbers that are not there, were added at the end
pub record AreGrown (old new : List ℕ) : Type 0 where
  pub longer : length old ≤ length new
  pub kept : (n : ℕ) → slice_index_or new n 65535 ≡ slice_index_or old n 65535

-- the entries in their order
pub record AreIndexed (it : Indexed) : Type 0 where
  pub ascending : is_ascending number_of it.entries ≡ true
  pub small : list_all (λ entry. nat_lt entry.slot 65535) it.entries ≡ true
  pub few : length it.entries ≤ it.room
  pub room_small : it.room < 65536

-- what is noted of each number below the bound tells whether it is there, and its slot
pub record IsIndex (it : Indexed) (notes : List ℕ) (bound : ℕ) : Type 0 where
  pub held : AreIndexed it
  pub within : length notes ≤ bound
  pub told : (n : ℕ) → n < bound → slice_index_or notes n 65535 ≡ noted (row_of number_of n it.entries)
