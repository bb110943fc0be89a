-- The folders of objects: each is a node. And nodes that are lent.
use Rattle.std.proofs.Common.{◌≡◌, ℕ, true, List, Some, sym, ap, ◌∙◌}
use Rattle.fsrm_base.specs.Keyed.{has_row}
use Rattle.fsrm_base.proofs.Look.{found_has}
use Rattle.fsrm_model.specs.declared.row.NodeRow.{NodeRow}
use Rattle.fsrm_model.specs.nodes.Tree.{number, node_of, is_folder}
use Rattle.fsrm_model.proofs.nodes.Keeps.{folder_found}
use Rattle.node_table.specs.declared.view.NodeView.{NodeView}
use Rattle.node_table.specs.Views.{seen}
use Rattle.volume_tree.specs.Volume.{IsViewOf, Shows}

pub is_node : (nodes : List NodeRow) (n : ℕ) → is_folder nodes n ≡ true → has_row number n nodes ≡ true
is_node nodes n h =
    let found = folder_found nodes n h in
    found_has number n nodes found.row found.found

-- a lent node is the row that it shows
seen_is : (view : NodeView) (row : NodeRow) → IsViewOf view row → seen view ≡ row
seen_is view row h = λ i. record {
  number = h.number i;
  parent = h.parent i;
  name = h.name i;
  folder = h.folder i;
  length = h.bytes i;
  owner = h.owner i;
  created = h.created i;
  modified = h.modified i;
  accessed = h.accessed i;
}

pub seen_found : (view : NodeView) (nodes : List NodeRow) (n : ℕ) → Shows view nodes n → node_of nodes n ≡ Some (seen view)
seen_found view nodes n h = h.found ∙ ap Some (sym (seen_is view h.row h.is))
