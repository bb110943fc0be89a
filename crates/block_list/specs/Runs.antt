-- A list that is kept as runs, each of which is neither empty nor longer than a block.
use Rattle.std.specs.Prelude.{ℕ, ◌<◌, ◌≤◌, List, [], length, take}
use Rattle.std.specs.List.{flat_map, slice_index_or}

-- the entries of all runs, in order
abbrev pub entries_of : {T : Type 0} → List (List T) → List T
entries_of runs = flat_map (λ run. run) runs

-- the run at a place
abbrev pub run_at : {T : Type 0} → List (List T) → ℕ → List T
run_at runs i = slice_index_or runs i []

-- how many entries stand before a run
abbrev pub start_of : {T : Type 0} → List (List T) → ℕ → ℕ
start_of runs i = length (entries_of (take i runs))

-- the runs of a list, and how many entries it may have at most
pub record Contents (T : Type 0) : Type 0 where
  pub room : ℕ
  pub runs : List (List T)

-- runs, of which there may be so many at most
pub record Shelf (T : Type 0) : Type 0 where
  pub most : ℕ
  pub runs : List (List T)

-- no run is empty
pub record AreUsed {T : Type 0} (runs : List (List T)) : Type 0 where
  pub used : (k : ℕ) → k < length runs → 0 < length (run_at runs k)

pub record IsShelf {T : Type 0} (shelf : Shelf T) : Type 0 where
  pub small : shelf.most < 4294967296
  pub count : length shelf.runs ≤ shelf.most
  pub used : AreUsed shelf.runs
