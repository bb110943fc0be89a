-- The nodes of a volume, and what a tree of them answers.
use Rattle.std.specs.Prelude.{◌≡◌, ℕ, ◌+◌, ◌==◌, nat_lt, nat_le, not, Bool, false, List, [], ◌∷◌, length, slice_get, Option, Some, is_some}
use Rattle.std.specs.Option.{option_map_or}
use Rattle.fsrm_base.specs.Causes.{◌when◌, first}
use Rattle.fsrm_model.specs.declared.row.Capacity.{Capacity}
use Rattle.fsrm_model.specs.declared.row.NodeRow.{NodeRow}
use Rattle.fsrm_model.specs.nodes.FileOps.{resized, touched, placed}
use Rattle.fsrm_base.specs.Keyed.{with_row, with_change, without_row}
use Rattle.fsrm_model.specs.nodes.Tree.{number, node_of, name_of, is_under, children, child_number, children_in_order, name_bytes}
use Rattle.volume_tree.specs.declared.answer.TreeFault.{TreeFault}
use Rattle.volume_tree.specs.declared.answer.TreeFault.TheVariants.{AlreadyExists, InvalidMove, NotEmpty, VolumeFull, NamesFull}
pub use Rattle.node_table.specs.declared.view.NodeView.{NodeView}

-- a tree: how much of it there may be, and its nodes
pub record Volume : Type 0 where
  pub size : Capacity
  pub nodes : List NodeRow

-- a move: which node goes into which folder under which name
pub record Move : Type 0 where
  pub node : ℕ
  pub folder : ℕ
  pub name : List ℕ

-- why a node can't be made
abbrev pub new_fault : Volume → ℕ → List ℕ → Option TreeFault
new_fault v folder name =
    first ((AlreadyExists when is_some (child_number v.nodes folder name))
    ∷ (VolumeFull when nat_le v.size.nodes (length v.nodes))
    ∷ (NamesFull when nat_lt v.size.names (name_bytes v.nodes + length name)) ∷ [])

-- whether it is a number other than this one
abbrev pub is_other : Option ℕ → ℕ → Bool
is_other found n = option_map_or (λ k. not (k == n)) found false

-- why a node can't be moved; its old name's bytes are given back
abbrev pub move_fault : Volume → ℕ → ℕ → List ℕ → Option TreeFault
move_fault v n folder name =
    first ((InvalidMove when is_under v.nodes n folder)
    ∷ (AlreadyExists when is_other (child_number v.nodes folder name) n)
    ∷ (NamesFull when nat_lt (v.size.names + length (name_of v.nodes n)) (name_bytes v.nodes + length name)) ∷ [])

-- why a node can't be removed
abbrev pub remove_fault : Volume → ℕ → Option TreeFault
remove_fault v n = NotEmpty when not (length (children v.nodes n) == 0)

-- a volume with one more node; with a file of another length, or that was read; with a node at another place; without a node
abbrev pub with_node : Volume → NodeRow → Volume
with_node v node = record v { nodes = with_row number node v.nodes }

abbrev pub with_length : Volume → ℕ → ℕ → ℕ → Volume
with_length v n bytes moment = record v { nodes = with_change number n (resized bytes moment) v.nodes }

abbrev pub with_touch : Volume → ℕ → ℕ → Volume
with_touch v n moment = record v { nodes = with_change number n (touched moment) v.nodes }

abbrev pub with_place : Volume → ℕ → ℕ → List ℕ → Volume
with_place v n folder name = record v { nodes = with_change number n (placed folder name) v.nodes }

abbrev pub without_node : Volume → ℕ → Volume
without_node v n = record v { nodes = without_row number n v.nodes }

-- a node, lent
pub record IsViewOf (view : NodeView) (row : NodeRow) : Type 0 where
  pub number : view.number ≡ row.number
  pub parent : view.parent ≡ row.parent
  pub name : view.name.now ≡ row.name
  pub folder : view.folder ≡ row.folder
  pub bytes : view.length ≡ row.length
  pub owner : view.owner ≡ row.owner
  pub created : view.created ≡ row.created
  pub modified : view.modified ≡ row.modified
  pub accessed : view.accessed ≡ row.accessed

-- the node of a number, lent
pub record Shows (view : NodeView) (nodes : List NodeRow) (n : ℕ) : Type 0 where
  pub row : NodeRow
  pub found : node_of nodes n ≡ Some row
  pub is : IsViewOf view row

-- a number is that of the child at a place in the order of the folded names
pub record IsChildAt (nodes : List NodeRow) (folder place n : ℕ) : Type 0 where
  pub row : NodeRow
  pub at : slice_get (children_in_order nodes folder) place ≡ Some row
  pub number_is : row.number ≡ n
  pub found : node_of nodes n ≡ Some row
