-- Where in ascending rows a number stands, or is to stand.
use Rattle.std.specs.Prelude.{◌≡◌, ℕ, ◌<◌, ◌≤◌, false, List, length, slice_get, Some}
use Rattle.fsrm_base.specs.Keyed.{row_of, has_row}

-- the row of a number stands at a place
pub record IsAt {X : Type 0} (key : X → ℕ) (n : ℕ) (rows : List X) (place : ℕ) : Type 0 where
  pub within : place < length rows
  pub found : slice_get rows place ≡ row_of key n rows

-- no row has the number, and one is to stand at a place
pub record IsGap {X : Type 0} (key : X → ℕ) (n : ℕ) (rows : List X) (place : ℕ) : Type 0 where
  pub within : place ≤ length rows
  pub absent : has_row key n rows ≡ false
  pub before : (k : ℕ) (row : X) → k < place → slice_get rows k ≡ Some row → key row < n
  pub after : (k : ℕ) (row : X) → place ≤ k → slice_get rows k ≡ Some row → n < key row
