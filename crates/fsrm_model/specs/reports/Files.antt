-- The files of a report, and what files come to.
use Rattle.std.specs.Prelude.{ℕ, ◌&&◌, not, Bool, List, [], ◌∷◌, filter, length, sum_by}
use Rattle.fsrm_model.specs.declared.row.Capacity.{Capacity}
use Rattle.fsrm_model.specs.declared.row.Filter.{Filter}
use Rattle.fsrm_model.specs.declared.row.NodeRow.{NodeRow}
use Rattle.fsrm_model.specs.nodes.Tree.{under}
use Rattle.fsrm_model.specs.reports.Filters.{passes_owner, passes_pattern}
use Rattle.fsrm_model.specs.values.Space.{space}
pub use Rattle.fsrm_model.specs.declared.report.Sums.{Sums}

-- whether a node is a file that is asked for
abbrev pub is_asked : Filter → NodeRow → Bool
is_asked asked node = not node.folder && (passes_owner asked node.owner && passes_pattern asked node.name)

-- the files below a folder that are asked for, in the order of their numbers
abbrev pub report_files : List NodeRow → ℕ → Filter → List NodeRow
report_files nodes scope asked = filter (is_asked asked) (under nodes scope)

-- the number of the first file
abbrev pub first_number : List NodeRow → ℕ
first_number [] = 0
first_number (node ∷ nodes) = node.number

-- the least number of files, how many there are, and the sums of their lengths and of what they take
abbrev pub sums : Capacity → List NodeRow → Sums
sums K files = record { first = first_number files; files = length files; lengths = sum_by (λ node. node.length) files; alloc = sum_by (space K) files }
