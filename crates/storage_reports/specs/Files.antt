-- The files of a report.
use Rattle.std.specs.Prelude.{◌≡◌, ℕ, ◌+◌, ◌^◌, ◌<◌, ◌≤◌, ◌==◌, ◌&&◌, nat_le, Bool, true, List, Option, filter, length, sum_by, if◌then◌else◌}
use Rattle.fsrm_model.specs.declared.row.Capacity.{Capacity}
use Rattle.fsrm_model.specs.declared.row.Filter.{Filter}
use Rattle.fsrm_model.specs.declared.row.NodeRow.{NodeRow}
use Rattle.fsrm_model.specs.values.Space.{space}
use Rattle.fsrm_model.specs.nodes.Tree.{number}
use Rattle.fsrm_model.specs.store.Valid.{IsVolume}
use Rattle.fsrm_base.specs.Keyed.{has_row}
use Rattle.volume_tree.specs.Volume.{Volume}
use Rattle.storage_reports.specs.Marks.{is_marked}
pub use Rattle.fsrm_model.specs.declared.report.Sums.{Sums}
pub use Rattle.fsrm_model.specs.reports.Files.{first_number, is_asked, report_files, sums}
pub use Rattle.fsrm_model.specs.reports.Filters.{passes_owner, passes_pattern, passes_pattern_of}

-- the sums of no files, and those with one file more
abbrev pub no_files : Sums
no_files = record { first = 0; files = 0; lengths = 0; alloc = 0 }

abbrev pub with_file : Sums → ℕ → ℕ → ℕ → Sums
with_file sums number length alloc =
    record { first = if sums.files == 0 then number else sums.first; files = sums.files + 1; lengths = sums.lengths + length; alloc = sums.alloc + alloc }

-- whether a node is one of the marked files that are asked for
abbrev pub is_file : List Bool → Filter → NodeRow → Bool
is_file marks asked node = is_marked marks node.number && is_asked asked node

-- the nodes that pass, from a number on; and how many nodes there are from it on
abbrev pub rows_from : (NodeRow → Bool) → ℕ → List NodeRow → List NodeRow
rows_from test n nodes = filter (λ node. nat_le n node.number && test node) nodes

abbrev pub always : NodeRow → Bool
always node = true

abbrev pub ahead : ℕ → List NodeRow → ℕ
ahead n nodes = length (rows_from always n nodes)

-- the files that are still to be lent, and how many looks that may take; and the same of all files of the course
pub record Course : Type 0 where
  pub files : List NodeRow
  pub looks : ℕ
  pub all : List NodeRow
  pub whole : ℕ

-- What is kept between two files: marks of numbers that are there, for all of a volume, of which some were passed, and
-- the pattern that is asked for.
pub record IsCourse (volume : Volume) (marks : List Bool) (next : ℕ) (pattern : Option (List ℕ)) (asked : Filter) : Type 0 where
  pub kept : IsVolume volume.size volume.nodes
  pub there : (n : ℕ) → is_marked marks n ≡ true → has_row number n volume.nodes ≡ true
  pub long : length marks ≡ volume.size.nodes
  pub within : next ≤ volume.size.nodes
  pub pattern_is : pattern ≡ asked.pattern

-- sums over files fit
pub record Fits (K : Capacity) (files : List NodeRow) : Type 0 where
  pub few : length files < 2 ^ 64
  pub lengths : sum_by (λ node. node.length) files < 2 ^ 64
  pub alloc : sum_by (space K) files < 2 ^ 64
