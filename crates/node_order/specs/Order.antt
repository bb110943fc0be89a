-- The order of the places of nodes: by folders, and in each by folded names.
use Rattle.std.specs.Prelude.{◌≡◌, ℕ, ◌<◌, ◌≤◌, ◌==◌, ◌&&◌, ◌||◌, nat_lt, not, Bool, true, false, All, List, length, map, filter, slice_get, Option, Some, IfNone, IfSome, OnSome}
use Rattle.std.specs.List.{AllPairs, between}
use Rattle.std.specs.List.Sorted.{IsPermutation}
use Rattle.std.specs.Option.{option_map_or}
use Rattle.fsrm_model.specs.declared.row.NodeRow.{NodeRow}
use Rattle.fsrm_model.specs.values.Name.{name_before, same_name}
use Rattle.fsrm_base.specs.Numbers.{is_in}
use Rattle.fsrm_model.specs.nodes.Tree.{number, node_of, children_in_order, is_child}

-- all nodes but the root
abbrev pub inner : List NodeRow → List NodeRow
inner nodes = filter (λ node. not (node.number == 0)) nodes

-- whether a node stands before the place of a name in a folder: by folders, and in each by folded names
abbrev pub is_before : NodeRow → ℕ → List ℕ → Bool
is_before node folder name = nat_lt node.parent folder || ((node.parent == folder) && name_before node.name name)

-- whether a node has a name in a folder
abbrev pub is_named : NodeRow → ℕ → List ℕ → Bool
is_named node folder name = (node.parent == folder) && same_name node.name name

-- whether a number is that of a node other than the root that has a name in a folder
abbrev pub has_name : List NodeRow → ℕ → ℕ → List ℕ → Bool
has_name nodes n folder name = option_map_or (λ row. not (n == 0) && is_named row folder name) (node_of nodes n) false

-- whether a number is that of a folder's child
abbrev pub is_child_of : List NodeRow → ℕ → ℕ → Bool
is_child_of nodes n folder = option_map_or (λ row. is_child folder row) (node_of nodes n) false

-- numbers are those of some nodes, of none twice and not of the root, in the order of their places
pub record IsListed (nodes : List NodeRow) (order : List ℕ) : Type 0 where
  pub entries : List NodeRow
  pub numbers : order ≡ map number entries
  pub there : All (λ row. node_of nodes row.number ≡ Some row) entries
  pub inside : All (λ row. (row.number == 0) ≡ false) entries
  pub ascending : AllPairs (λ a b. is_before a b.parent b.name ≡ true) entries

-- numbers are those of all nodes but the root in the order of their places, no place twice
pub record IsOrder (nodes : List NodeRow) (order : List ℕ) : Type 0 where
  pub entries : List NodeRow
  pub numbers : order ≡ map number entries
  pub members : IsPermutation (inner nodes) entries
  pub ascending : AllPairs (λ a b. is_before a b.parent b.name ≡ true) entries

-- a node is there, and has a name
pub record HasName (nodes : List NodeRow) (n : ℕ) (name : List ℕ) : Type 0 where
  pub row : NodeRow
  pub found : node_of nodes n ≡ Some row
  pub name_is : name ≡ row.name

-- a node is there, and stands before the place of a name in a folder or after it, or has the name
pub record Stands (nodes : List NodeRow) (n folder : ℕ) (name : List ℕ) (before : Option Bool) : Type 0 where
  pub row : NodeRow
  pub found : node_of nodes n ≡ Some row
  pub before_is : IfSome before (λ b. b ≡ is_before row folder name)
  pub other : OnSome before (is_named row folder name ≡ false)
  pub named : IfNone before (is_named row folder name ≡ true)
  pub not_before : IfNone before (is_before row folder name ≡ false)

-- where in the order a name of a folder stands, or is to stand
pub record IsPlace (nodes : List NodeRow) (order : List ℕ) (folder : ℕ) (name : List ℕ) (place : ℕ) : Type 0 where
  pub within : place ≤ length order
  pub before : (k n : ℕ) (row : NodeRow) → k < place → slice_get order k ≡ Some n → node_of nodes n ≡ Some row → is_before row folder name ≡ true
  pub after : (k n : ℕ) (row : NodeRow) → place ≤ k → slice_get order k ≡ Some n → node_of nodes n ≡ Some row → is_before row folder name ≡ false

-- a place that isn't after this one: what stands in front of it comes before the name
pub record IsFloor (nodes : List NodeRow) (order : List ℕ) (folder : ℕ) (name : List ℕ) (place : ℕ) : Type 0 where
  pub within : place ≤ length order
  pub before : (k n : ℕ) (row : NodeRow) → k < place → slice_get order k ≡ Some n → node_of nodes n ≡ Some row → is_before row folder name ≡ true

-- a place that isn't before this one: from it on nothing comes before the name
pub record IsCeiling (nodes : List NodeRow) (order : List ℕ) (folder : ℕ) (name : List ℕ) (place : ℕ) : Type 0 where
  pub within : place ≤ length order
  pub after : (k n : ℕ) (row : NodeRow) → place ≤ k → slice_get order k ≡ Some n → node_of nodes n ≡ Some row → is_before row folder name ≡ false

-- a place from which on nothing comes before the name, or has it
pub record IsBeyond (nodes : List NodeRow) (order : List ℕ) (folder : ℕ) (name : List ℕ) (place : ℕ) : Type 0 where
  pub within : place ≤ length order
  pub after : (k n : ℕ) (row : NodeRow) → place ≤ k → slice_get order k ≡ Some n → node_of nodes n ≡ Some row → is_before row folder name ≡ false
  pub other : (k n : ℕ) (row : NodeRow) → place ≤ k → slice_get order k ≡ Some n → node_of nodes n ≡ Some row → is_named row folder name ≡ false

-- what stands at a place has the name
pub record IsNamed (nodes : List NodeRow) (order : List ℕ) (folder : ℕ) (name : List ℕ) (place : ℕ) : Type 0 where
  pub number : ℕ
  pub row : NodeRow
  pub at : slice_get order place ≡ Some number
  pub found : node_of nodes number ≡ Some row
  pub named : is_named row folder name ≡ true

-- no node that is listed has the name
abbrev pub LacksName : List NodeRow → List ℕ → ℕ → List ℕ → Type 0
LacksName nodes order folder name = (n : ℕ) → is_in order n ≡ true → has_name nodes n folder name ≡ false

-- from where to where in the order a folder's children stand, in the order of their folded names
pub record IsSegment (nodes : List NodeRow) (order : List ℕ) (folder first end : ℕ) : Type 0 where
  pub ordered : first ≤ end
  pub within : end ≤ length order
  pub children_are : between first end order ≡ map number (children_in_order nodes folder)
