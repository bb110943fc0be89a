-- Rows in slots, in the order of an index.
use Rattle.std.specs.Prelude.{◌≡◌, ℕ, ◌≤◌, true, List, [], ◌∷◌, length, map, option_map, sum_by, Option, Some, None}
use Rattle.fsrm_base.specs.Keyed.{is_ascending, row_of}
use Rattle.row_table.specs.Held.{AreHeld, Held}
use Rattle.row_table.specs.Indexed.{Indexed, number_of, slot_in}
use Rattle.row_table.specs.Pooled.{Pooled, in_slot}

-- the rows of slots, of those that have one
abbrev pub rows_of : {X : Type 0} → List (Option X) → List X
rows_of [] = []
rows_of (None ∷ slots) = rows_of slots
rows_of (Some row ∷ slots) = row ∷ rows_of slots

-- the rows of the slots that entries name, in the order of these
abbrev pub held_in : {X : Type 0} → Indexed → Pooled X → Held X
held_in index pool = record { rows = rows_of (map (λ entry. in_slot pool.slots entry.slot) index.entries); room = index.room }

-- what a table keeps of its rows: the row of a number is the one in its slot
pub record IsTable {X : Type 0} (key bytes : X → ℕ) (most most_bytes : ℕ) (index : Indexed) (pool : Pooled X) (texts : ℕ) (it : Held X) : Type 0 where
  pub held : AreHeld key bytes most most_bytes it
  pub texts_are : texts ≡ sum_by bytes it.rows
  pub ascending : is_ascending number_of index.entries ≡ true
  pub found : (n : ℕ) → option_map (in_slot pool.slots) (slot_in index.entries n) ≡ option_map Some (row_of key n it.rows)
  pub counted : pool.held ≡ length it.rows
  pub room_is : it.room ≡ index.room
  pub room_most : it.room ≤ pool.room
