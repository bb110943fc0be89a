-- Runs of which no two neighbours fit into one block.
use Rattle.std.specs.Prelude.{◌≡◌, ◌≢◌, ℕ, ◌+◌, ◌*◌, ◌/◌, ◌<◌, ◌≤◌, List, length}
use Rattle.block_list.specs.Runs.{Shelf, entries_of, run_at}

-- each two neighbours have more entries than a block holds
pub record IsTight {T : Type 0} (runs : List (List T)) : Type 0 where
  pub pairs : (j : ℕ) → j + 1 < length runs → 128 < length (run_at runs j) + length (run_at runs (j + 1))

-- the same, but at two places
pub record IsTightBut {T : Type 0} (runs : List (List T)) (p q : ℕ) : Type 0 where
  pub pairs : (j : ℕ) → j ≢ p → j ≢ q → j + 1 < length runs → 128 < length (run_at runs j) + length (run_at runs (j + 1))

-- so many entries, in runs for which there is always a spare block
pub record IsList {T : Type 0} (room len : ℕ) (shelf : Shelf T) : Type 0 where
  pub most : shelf.most ≡ 2 * room / 129 + 2
  pub count : len ≡ length (entries_of shelf.runs)
  pub small : room < 4294967296
  pub within : length (entries_of shelf.runs) ≤ room
  pub tight : IsTight shelf.runs
