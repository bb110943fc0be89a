-- Slots, some with a row.
use Rattle.std.specs.Prelude.{◌≡◌, ℕ, ◌<◌, ◌≤◌, true, List, length, reverse, slice_index_or, Option, None}
use Rattle.fsrm_base.specs.Numbers.{is_in, each_once}

-- what each slot has, how many have a row, and for how many rows there is memory
pub record Pooled (X : Type 0) : Type 0 where
  pub slots : List (Option X)
  pub held : ℕ
  pub room : ℕ

-- what a slot has, nothing past the last one
abbrev pub in_slot : {X : Type 0} → List (Option X) → ℕ → Option X
in_slot slots slot = slice_index_or slots slot None

-- one slot has got something, and no other has changed
pub record Puts {X : Type 0} (old new : List (Option X)) (slot : ℕ) (row : Option X) : Type 0 where
  pub put : in_slot new slot ≡ row
  pub others : (other : ℕ) → (other ≡ slot → ⊥) → in_slot new other ≡ in_slot old other

-- the free slots, the last one first, have no row, each stands once, and there is memory
pub record IsPool {X : Type 0} (slots : List (Option X)) (free : List ℕ) (room slots_memory free_memory : ℕ) : Type 0 where
  pub vacant : (slot : ℕ) → is_in (reverse free) slot ≡ true → (slot < length slots) × (in_slot slots slot ≡ None)
  pub once : each_once (reverse free) ≡ true
  pub fewer : length free ≤ length slots
  pub few : length slots ≤ room
  pub small : room < 65536
  pub slots_fit : room ≤ slots_memory
  pub free_fit : room ≤ free_memory
