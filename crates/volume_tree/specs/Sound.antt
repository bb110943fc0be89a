-- What rows have that are the nodes of a volume, in the parts in which they are read.
use Rattle.std.specs.Prelude.{◌≡◌, ℕ, suc, ◌==◌, ◌&&◌, nat_lt, nat_le, Bool, true, false, List, [], ◌∷◌, Some, if◌then◌else◌, slice_index_or}
use Rattle.std.specs.List.{list_all, list_any}
use Rattle.fsrm_model.specs.declared.row.NodeRow.{NodeRow}
use Rattle.fsrm_base.specs.Keyed.{has_row}
use Rattle.fsrm_model.specs.values.Name.{same_name}
use Rattle.fsrm_model.specs.nodes.Tree.{number, node_of, is_folder, is_under, chain_in}
use Rattle.fsrm_model.specs.values.Limits.{longest_file}
use Rattle.fsrm_model.specs.store.Valid.{is_moment, is_root_node, is_own}

-- numbers ascend from one on, below a bound
abbrev pub are_from : ℕ → ℕ → List NodeRow → Bool
are_from n bound [] = true
are_from n bound (row ∷ rows) = (nat_le n row.number && nat_lt row.number bound) && are_from (suc row.number) bound rows

-- the root, or what another node has, its parent among it, but for the way up and for other children
abbrev pub is_placed : List NodeRow → NodeRow → Bool
is_placed nodes node = if node.number == 0 then is_root_node node else (is_own node && is_folder nodes node.parent)

-- a length and moments that are no greater than those of nodes may be
abbrev pub is_in_range : NodeRow → Bool
is_in_range node = nat_le node.length longest_file && (is_moment node.created && (is_moment node.modified && is_moment node.accessed))

-- what rows have that are a volume's nodes, but for the bytes of names and for two children of one name
abbrev pub are_sound : ℕ → List NodeRow → Bool
are_sound bound nodes =
    (are_from 0 bound nodes && (has_row number 0 nodes && list_all (is_placed nodes) nodes))
    && list_all (λ node. is_under nodes 0 node.number) nodes

-- two children of one folder have one name
pub record HasTwins (nodes : List NodeRow) : Type 0 where
  pub one : NodeRow
  pub other : NodeRow
  pub one_found : node_of nodes one.number ≡ Some one
  pub other_found : node_of nodes other.number ≡ Some other
  pub one_inner : (one.number == 0) ≡ false
  pub other_inner : (other.number == 0) ≡ false
  pub apart : one.number ≡ other.number → ⊥
  pub folder : one.parent ≡ other.parent
  pub name : same_name one.name other.name ≡ true

-- the way up from a node comes to the root, in however many steps
pub record Reaches (nodes : List NodeRow) (n : ℕ) : Type 0 where
  pub steps : ℕ
  pub comes : list_any (λ k. k == 0) (chain_in steps nodes n) ≡ true

-- the root is marked, and no number from which the way up doesn't come to it
pub record AreMarks (nodes : List NodeRow) (marks : List Bool) : Type 0 where
  pub root : slice_index_or marks 0 false ≡ true
  pub reach : (n : ℕ) → slice_index_or marks n false ≡ true → Reaches nodes n
