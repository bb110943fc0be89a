-- The row that a lent node shows.
use Rattle.std.specs.Prelude.{◌≤◌}
use Rattle.fsrm_model.specs.declared.row.NodeRow.{NodeRow}
use Rattle.fsrm_model.specs.values.Limits.{latest_moment, longest_file}
use Rattle.node_table.specs.declared.view.NodeView.{NodeView}

abbrev pub seen : NodeView → NodeRow
seen view =
    record {
      number = view.number;
      parent = view.parent;
      name = view.name.now;
      folder = view.folder;
      length = view.length;
      owner = view.owner;
      created = view.created;
      modified = view.modified;
      accessed = view.accessed;
    }

-- the length and the moments are no greater than those of a volume's nodes
pub record IsInRange (row : NodeRow) : Type 0 where
  pub bytes : row.length ≤ longest_file
  pub created_at : row.created ≤ latest_moment
  pub modified_at : row.modified ≤ latest_moment
  pub accessed_at : row.accessed ≤ latest_moment
