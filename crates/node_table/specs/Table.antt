-- What a table of nodes is to its callers.
use Rattle.std.specs.Prelude.{ℕ, List, [], Option}
use Rattle.fsrm_model.specs.declared.row.NodeRow.{NodeRow}

-- how many nodes and bytes of names there may be, and the slots
pub record Table : Type 0 where
  pub nodes : ℕ
  pub names : ℕ
  pub slots : List (Option NodeRow)

abbrev pub no_nodes : ℕ → ℕ → Table
no_nodes nodes names = record { nodes = nodes; names = names; slots = [] }
