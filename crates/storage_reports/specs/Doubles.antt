-- Files that may be one.
use Rattle.std.specs.Prelude.{◌≡◌, ℕ, ◌+◌, ◌*◌, ◌%◌, ◌^◌, ◌≤◌, ◌==◌, nat_lt, Bool, true, List, [], ◌∷◌, length, filter, if◌then◌else◌}
use Rattle.std.specs.String.{string_bytes}
use Rattle.fsrm_model.specs.declared.report.ReportRow.{ReportRow}
use Rattle.fsrm_model.specs.declared.report.ReportRow.TheVariants.{File}
use Rattle.storage_reports.specs.declared.doubles.FileKey.{FileKey}
use Rattle.fsrm_model.specs.declared.report.Sums.{Sums}
use Rattle.fsrm_model.specs.declared.row.NodeRow.{NodeRow}
use Rattle.fsrm_model.specs.reports.Reports.{file_key}
use Rattle.fsrm_base.specs.Numbers.{is_in}
use Rattle.number_set.specs.Numbers.{Numbers}
use Rattle.storage_reports.specs.Marks.{bit}

-- what is seen of a key
abbrev pub file_value : FileKey → List ℕ
file_value key = key.length ∷ key.modified ∷ string_bytes key.name

-- the first file of a group, with what all of them take
abbrev pub double_row : List ℕ × Sums → ReportRow
double_row group = File group.1.first group.1.alloc

-- ---- a number that a list of numbers comes to, from one on: with each of them it is multiplied by a prime, and wraps
unfoldable pub mixed_with : ℕ → ℕ → ℕ
mixed_with hash word = (hash * 1099511628211 % 2 ^ 64 + word) % 2 ^ 64

abbrev pub mixed : ℕ → List ℕ → ℕ
mixed hash [] = hash
mixed hash (word ∷ words) = mixed (mixed_with hash word) words

-- ---- each file takes one of so many slots; files that may be one take the same slot
abbrev pub slot_of : ℕ → NodeRow → ℕ
slot_of slots node = mixed 0 (file_key node) % 2 ^ 32 % slots

-- how many files take a slot
abbrev pub count_in : ℕ → ℕ → List NodeRow → ℕ
count_in slots n files = length (filter (λ node. slot_of slots node == n) files)

-- how often a slot was taken so far, but no more than twice: it is among those that are taken, or also among those that are shared
abbrev pub times : Numbers → Numbers → ℕ → ℕ
times taken shared n = bit (is_in taken.members n) + bit (is_in shared.members n)

abbrev pub once_more : ℕ → ℕ
once_more count = if nat_lt count 2 then count + 1 else count

-- with the files that are left, each slot was taken twice that two or more of all files take
pub record Counts (slots : ℕ) (all left : List NodeRow) (taken shared : Numbers) : Type 0 where
  pub each : (n : ℕ) → 2 ≤ count_in slots n all → 2 ≤ times taken shared n + count_in slots n left

-- all slots are among the shared ones that two or more files take
pub record Shares (all : List NodeRow) (shared : Numbers) : Type 0 where
  pub each : (n : ℕ) → 2 ≤ count_in shared.bound n all → is_in shared.members n ≡ true

-- whether a file may have a double
abbrev pub may_double : Numbers → NodeRow → Bool
may_double shared node = is_in shared.members (slot_of shared.bound node)

-- the files whose slots are shared, among them all that have a double
pub record AreLeft (all left : List NodeRow) : Type 0 where
  pub shared : Numbers
  pub shares : Shares all shared
  pub are : left ≡ filter (may_double shared) all
