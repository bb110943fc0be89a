-- The rows of a table, and what holds of them.
use Rattle.std.specs.Prelude.{◌≡◌, ℕ, ◌≤◌, nat_le, true, List, length}
use Rattle.std.specs.List.{list_all}
use Rattle.fsrm_base.specs.Keyed.{is_ascending}

-- the rows, ascending, and for how many there is memory
pub record Held (X : Type 0) : Type 0 where
  pub rows : List X
  pub room : ℕ

-- each number at most once, no row with longer texts than it may have, no more rows than there is memory for, and that for
-- no more than there may be
pub record AreHeld {X : Type 0} (key bytes : X → ℕ) (most most_bytes : ℕ) (it : Held X) : Type 0 where
  pub ascending : is_ascending key it.rows ≡ true
  pub small : list_all (λ row. nat_le (bytes row) most_bytes) it.rows ≡ true
  pub few : length it.rows ≤ it.room
  pub most_room : it.room ≤ most

-- a change by which the number of a row and the bytes of its texts stay
pub record Keeps {X : Type 0} (key bytes : X → ℕ) (change : X → X) : Type 0 where
  pub number : (row : X) → key (change row) ≡ key row
  pub texts : (row : X) → bytes (change row) ≡ bytes row
