-- Slots, each with the row of its number or empty.
use Rattle.std.specs.Prelude.{◌≡◌, ℕ, zero, suc, Bool, List, [], ◌∷◌, Option, Some, None, is_some, option_map, slice_index_or}
use Rattle.fsrm_model.specs.declared.row.NodeRow.{NodeRow}

-- the rows that stand in slots
abbrev pub rows_of : List (Option NodeRow) → List NodeRow
rows_of [] = []
rows_of (None ∷ slots) = rows_of slots
rows_of (Some row ∷ slots) = row ∷ rows_of slots

-- a row stands in the slot of its number
abbrev pub IsSlot : ℕ → Option NodeRow → Type 0
IsSlot n None = Unit {0}
IsSlot n (Some row) = row.number ≡ n

-- the slots from a number on
abbrev pub AreSlots : ℕ → List (Option NodeRow) → Type 0
AreSlots n [] = Unit {0}
AreSlots n (slot ∷ slots) = IsSlot n slot × AreSlots (suc n) slots

-- what is in a slot: nothing past the last one
abbrev pub slot_at : List (Option NodeRow) → ℕ → Option NodeRow
slot_at slots n = slice_index_or slots n None

-- whether a row is in a slot
abbrev pub is_taken : List (Option NodeRow) → ℕ → Bool
is_taken slots n = is_some (slot_at slots n)

-- a list with another element at a place, filled up to there
abbrev pub with_at : {X : Type 0} → X → List X → ℕ → X → List X
with_at filler [] zero x = x ∷ []
with_at filler [] (suc n) x = filler ∷ with_at filler [] n x
with_at filler (y ∷ ys) zero x = x ∷ ys
with_at filler (y ∷ ys) (suc n) x = y ∷ with_at filler ys n x

-- slots with something else in one of them; where there weren't as many, those before it are empty
abbrev pub with_slot : List (Option NodeRow) → ℕ → Option NodeRow → List (Option NodeRow)
with_slot slots n slot = with_at None slots n slot

-- slots with a row changed
abbrev pub with_change_at : List (Option NodeRow) → ℕ → (NodeRow → NodeRow) → List (Option NodeRow)
with_change_at slots n change = with_slot slots n (option_map change (slot_at slots n))
