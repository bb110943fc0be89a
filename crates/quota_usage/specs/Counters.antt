-- Counters of folders, ascending by folder.
use Rattle.std.specs.Prelude.{ℕ, List, Option, option_map}
use Rattle.fsrm_base.specs.Keyed.{row_of, with_row, without_row}
use Rattle.quota_usage.specs.declared.change.Counter.{Counter}

abbrev pub counted : Counter → ℕ
counted counter = counter.folder

-- what a folder's counter stands at
abbrev pub used_in : List Counter → ℕ → Option ℕ
used_in counters folder = option_map (λ counter. counter.bytes) (row_of counted folder counters)

-- one counter more
abbrev pub with_counter : List Counter → ℕ → ℕ → List Counter
with_counter counters folder bytes = with_row counted (record { folder = folder; bytes = bytes }) counters

-- one less
abbrev pub without_counter : List Counter → ℕ → List Counter
without_counter counters folder = without_row counted folder counters
