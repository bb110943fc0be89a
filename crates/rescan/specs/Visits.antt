-- What a visit of a folder takes up.
use Rattle.std.specs.Prelude.{ℕ, ◌+◌, ◌*◌, List, map, filter, length, sum_by}
use Rattle.std.specs.Option.{option_map_or}
use Rattle.fsrm_model.specs.declared.row.Capacity.{Capacity}
use Rattle.fsrm_model.specs.declared.row.NodeRow.{NodeRow}
use Rattle.fsrm_base.specs.Numbers.{without_number, with_numbers}
use Rattle.fsrm_model.specs.values.Space.{space}
use Rattle.fsrm_model.specs.nodes.Tree.{number, node_of, is_folder, children, children_in_order}
use Rattle.rescan.specs.Frontiers.{Front, unvisited}

-- the folders that stand in a folder
abbrev pub folders_in : List NodeRow → ℕ → List ℕ
folders_in nodes folder = map number (filter (λ node. node.folder) (children_in_order nodes folder))

-- which of these nodes are folders, and what a node takes if it is a file
abbrev pub folders_among : List NodeRow → List ℕ → List ℕ
folders_among nodes numbers = filter (is_folder nodes) numbers

abbrev pub space_of : Capacity → List NodeRow → ℕ → ℕ
space_of K nodes n = option_map_or (space K) (node_of nodes n) 0

-- the topmost unvisited folders after one of them was visited: the folders in it take its place
abbrev pub tops_after : List NodeRow → ℕ → List ℕ → List ℕ
tops_after nodes folder tops = with_numbers (folders_in nodes folder) (without_number folder tops)

-- the looks that visits of all unvisited folders take
abbrev pub looks_left : List NodeRow → Front → ℕ
looks_left nodes front = sum_by (λ n. 1 + 2 * length (children nodes n)) (unvisited nodes front)
