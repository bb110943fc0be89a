-- What a path leads to.
use Rattle.std.specs.Prelude.{ℕ, ◌==◌, Bool, false, not, is_some, List, length}
use Rattle.std.specs.Option.{option_map_or}
use Rattle.fsrm_model.specs.declared.row.NodeRow.{NodeRow}
use Rattle.fsrm_model.specs.nodes.Tree.{resolve, is_folder}

abbrev pub is_root : List (List ℕ) → Bool
is_root path = length path == 0

-- whether a path leads to a node, to a folder, to a file
abbrev pub leads : List NodeRow → List (List ℕ) → Bool
leads nodes path = is_some (resolve nodes path)

abbrev pub leads_to_folder : List NodeRow → List (List ℕ) → Bool
leads_to_folder nodes path = option_map_or (is_folder nodes) (resolve nodes path) false

abbrev pub leads_to_file : List NodeRow → List (List ℕ) → Bool
leads_to_file nodes path = option_map_or (λ n. not (is_folder nodes n)) (resolve nodes path) false

-- whether a path leads to another node than this
abbrev pub leads_to_other : List NodeRow → List (List ℕ) → ℕ → Bool
leads_to_other nodes path n = option_map_or (λ k. not (k == n)) (resolve nodes path) false
