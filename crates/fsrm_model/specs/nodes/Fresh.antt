-- The rows of a new store.
use Rattle.std.specs.Prelude.{true, List, [], ◌∷◌}
use Rattle.fsrm_model.specs.declared.row.Capacity.{Capacity}
use Rattle.fsrm_model.specs.declared.row.NodeRow.{NodeRow}
use Rattle.fsrm_model.specs.declared.row.Rows.{Rows}

abbrev pub default_capacity : Capacity
default_capacity = record { nodes = 65536; names = 4194304; cluster = 4096 }

abbrev pub root_node : NodeRow
root_node =
    record { number = 0; parent = 0; name = []; folder = true; length = 0; owner = 1; created = 0; modified = 0; accessed = 0 }

-- the rows of a store in which nothing was done, but for these nodes
abbrev pub rows_of_nodes : List NodeRow → Rows
rows_of_nodes nodes =
    record {
      nodes = nodes;
      quotas = [];
      templates = [];
      autos = [];
      groups = [];
      screens = [];
      excepts = [];
      jobs = [];
      acts = [];
      audits = [];
      queue = [];
      unvisited = [];
      run_limit = 60;
      last_moment = 0;
    }

-- a new store has the root alone
abbrev pub new_rows : Rows
new_rows = rows_of_nodes (root_node ∷ [])
