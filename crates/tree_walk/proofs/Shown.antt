-- A lent node is the row that it shows.
use Rattle.std.proofs.Common.{◌≡◌, ℕ, List, Some, sym, ◌∙◌, ap}
use Rattle.fsrm_model.specs.declared.row.NodeRow.{NodeRow}
use Rattle.fsrm_model.specs.nodes.Tree.{number, node_of}
use Rattle.fsrm_base.proofs.Look.{found_key}
use Rattle.node_table.specs.declared.view.NodeView.{NodeView}
use Rattle.node_table.specs.Views.{seen}
use Rattle.volume_tree.specs.Volume.{IsViewOf, Shows}

pub seen_is : (view : NodeView) (row : NodeRow) → IsViewOf view row → seen view ≡ row
seen_is view row h = λ i. record {
  number = h.number i;
  parent = h.parent i;
  name = h.name i;
  folder = h.folder i;
  length = h.bytes i;
  owner = h.owner i;
  created = h.created i;
  modified = h.modified i;
  accessed = h.accessed i;
}

-- it is found under its number
pub seen_found : (view : NodeView) (nodes : List NodeRow) (n : ℕ) → Shows view nodes n → node_of nodes n ≡ Some (seen view)
seen_found view nodes n h = h.found ∙ ap Some (sym (seen_is view h.row h.is))

pub seen_number : (view : NodeView) (nodes : List NodeRow) (n : ℕ) → Shows view nodes n → view.number ≡ n
seen_number view nodes n h = found_key number n nodes (seen view) (seen_found view nodes n h)
