-- The tree of folders and files. Its nodes are rows that ascend by their number; node 0 is the root, and each
-- other node's parents lead to it. These words are defined of any rows, and meant of such a tree.
use Rattle.std.specs.Prelude.{ℕ, zero, suc, ◌-◌, ◌==◌, Bool, false, not, ◌&&◌, List, [], ◌∷◌, map, reverse, drop, take, length, filter, find, sum_by, Option, option_map, slice_index_or}
use Rattle.std.specs.Option.{option_map_or}
use Rattle.std.specs.List.{list_any}
use Rattle.fsrm_model.specs.declared.row.Capacity.{Capacity}
use Rattle.fsrm_model.specs.declared.row.NodeRow.{NodeRow}
use Rattle.fsrm_base.specs.Keyed.{row_of, least_free}
use Rattle.fsrm_base.specs.Order.{in_order}
use Rattle.fsrm_model.specs.values.Name.{same_name, same_names, name_before}
use Rattle.fsrm_model.specs.values.Space.{space}

abbrev pub number : NodeRow → ℕ
number node = node.number

-- the node of a number; its parent, its name, whether it is a folder, and its owner. If no node has the number: None,
-- 0, no bytes, false and 0
abbrev pub node_of : List NodeRow → ℕ → Option NodeRow
node_of nodes n = row_of number n nodes

abbrev pub parent_of : List NodeRow → ℕ → ℕ
parent_of nodes n = option_map_or (λ node. node.parent) (node_of nodes n) 0

abbrev pub name_of : List NodeRow → ℕ → List ℕ
name_of nodes n = option_map_or (λ node. node.name) (node_of nodes n) []

abbrev pub is_folder : List NodeRow → ℕ → Bool
is_folder nodes n = option_map_or (λ node. node.folder) (node_of nodes n) false

abbrev pub owner_of : List NodeRow → ℕ → ℕ
owner_of nodes n = option_map_or (λ node. node.owner) (node_of nodes n) 0

-- the number of a new node: the least that is free
abbrev pub fresh : List NodeRow → ℕ
fresh nodes = least_free number nodes

-- whether a node stands in a folder. The root stands in none, though its row names it as its own parent
abbrev pub is_child : ℕ → NodeRow → Bool
is_child folder node = not (node.number == 0) && (node.parent == folder)

abbrev pub children : List NodeRow → ℕ → List NodeRow
children nodes folder = filter (is_child folder) nodes

-- a folder's children in the order of their folded names
abbrev pub children_in_order : List NodeRow → ℕ → List NodeRow
children_in_order nodes folder = in_order (λ a b. name_before a.name b.name) (children nodes folder)

-- a folder's child of a name
abbrev pub child_of : List NodeRow → ℕ → List ℕ → Option NodeRow
child_of nodes folder name = find (λ node. is_child folder node && same_name node.name name) nodes

abbrev pub child_number : List NodeRow → ℕ → List ℕ → Option ℕ
child_number nodes folder name = option_map number (child_of nodes folder name)

-- a node, its parent and so on up to the root, in so many steps at most
abbrev pub chain_in : ℕ → List NodeRow → ℕ → List ℕ
chain_in zero nodes n = n ∷ []
chain_in (suc steps) nodes zero = 0 ∷ []
chain_in (suc steps) nodes (suc n) = suc n ∷ chain_in steps nodes (parent_of nodes (suc n))

-- A node, its parent and so on up to the root. In a tree no way up has more steps than there are nodes.
abbrev pub chain : List NodeRow → ℕ → List ℕ
chain nodes n = chain_in (length nodes) nodes n

-- the nodes above a node: its parent and so on up to the root
abbrev pub above : List NodeRow → ℕ → List ℕ
above nodes n = drop 1 (chain nodes n)

-- whether a node is at or below a folder
abbrev pub is_under : List NodeRow → ℕ → ℕ → Bool
is_under nodes folder n = list_any (λ k. k == folder) (chain nodes n)

-- the nodes at and below a node
abbrev pub under : List NodeRow → ℕ → List NodeRow
under nodes folder = filter (λ node. is_under nodes folder node.number) nodes

-- the usage of a node: the space of all files at and below it (MS-FSRM, IFsrmQuota, QuotaUsed)
abbrev pub usage : Capacity → List NodeRow → ℕ → ℕ
usage K nodes folder = sum_by (space K) (under nodes folder)

-- the names from the root down to a node
abbrev pub path_of : List NodeRow → ℕ → List (List ℕ)
path_of nodes n = drop 1 (map (name_of nodes) (reverse (chain nodes n)))

-- the node of a path: the one whose own path has the same names after folding
abbrev pub resolve : List NodeRow → List (List ℕ) → Option ℕ
resolve nodes path = option_map number (find (λ node. same_names (path_of nodes node.number) path) nodes)

-- the path without its last name, and that name
abbrev pub folder_part : List (List ℕ) → List (List ℕ)
folder_part path = take (length path - 1) path

abbrev pub last_name : List (List ℕ) → List ℕ
last_name path = slice_index_or path (length path - 1) []

-- the bytes of all names
abbrev pub name_bytes : List NodeRow → ℕ
name_bytes nodes = sum_by (λ node. length node.name) nodes
