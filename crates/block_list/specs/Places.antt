-- Places in runs.
use Rattle.std.specs.Prelude.{ℕ, ◌+◌, ◌<◌, ◌≤◌, max, List, length}
use Rattle.block_list.specs.declared.place.Place.{Place}
use Rattle.block_list.specs.Runs.{run_at, start_of}

-- which entry of the list stands at a place, or would if one were put there
abbrev pub index_of : {T : Type 0} → List (List T) → Place → ℕ
index_of runs place = start_of runs place.run + place.offset

-- an entry stands there
pub record IsEntry {T : Type 0} (runs : List (List T)) (place : Place) : Type 0 where
  pub run : place.run < length runs
  pub offset : place.offset < length (run_at runs place.run)

-- an entry may be put there: in a run, also at its end, or into the empty list
pub record IsGap {T : Type 0} (runs : List (List T)) (place : Place) : Type 0 where
  pub run : place.run < max 1 (length runs)
  pub offset : place.offset ≤ length (run_at runs place.run)
