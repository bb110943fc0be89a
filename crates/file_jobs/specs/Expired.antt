-- The files that expire.
use Rattle.std.specs.Prelude.{ℕ, ◌+◌, ◌*◌, ◌&&◌, nat_le, not, Bool, List, filter}
use Rattle.fsrm_model.specs.declared.row.NodeRow.{NodeRow}
use Rattle.fsrm_model.specs.nodes.Tree.{is_under}
use Rattle.fsrm_model.specs.values.Patterns.{pattern_matches}
pub use Rattle.file_jobs.specs.declared.expiry.Expiry.{Expiry}

-- whether a node is an old file of a name that matches
abbrev pub is_old : Expiry → NodeRow → Bool
is_old expiry node = (not node.folder && nat_le (node.modified + 86400 * expiry.days) expiry.moment) && pattern_matches node.name expiry.pattern

-- such a file below one folder and not below the other
abbrev pub expires : List NodeRow → ℕ → ℕ → Expiry → NodeRow → Bool
expires nodes from to expiry node = is_old expiry node && (is_under nodes from node.number && not (is_under nodes to node.number))

-- the files that expire, in the order of their numbers
abbrev pub expired : List NodeRow → ℕ → ℕ → Expiry → List NodeRow
expired nodes from to expiry = filter (expires nodes from to expiry) nodes
