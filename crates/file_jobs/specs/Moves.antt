-- The move of a file into a folder.
use Rattle.std.specs.Prelude.{◌≡◌, ℕ, ◌+◌, nat_le, not, Bool, true, false, List, [], ◌∷◌, ◌++◌, codes, Option, Some, None, if◌then◌else◌}
use Rattle.std.specs.Option.{option_map_or}
use Rattle.std.specs.List.{join_with_byte, AllByRecursion}
use Rattle.fsrm_model.specs.commands.Entry.{path_length}
use Rattle.fsrm_model.specs.declared.command.FileOp.{FileOp}
use Rattle.fsrm_model.specs.declared.command.FileOp.TheVariants.{Move}
use Rattle.fsrm_model.specs.declared.row.NodeRow.{NodeRow}
use Rattle.fsrm_model.specs.nodes.Tree.{name_of, node_of, path_of}

-- whether a number is that of a file
abbrev pub is_file : List NodeRow → ℕ → Bool
is_file nodes n = option_map_or (λ node. not node.folder) (node_of nodes n) false

-- each of these is a file
abbrev pub AreFiles : List NodeRow → List ℕ → Type 0
AreFiles nodes files = AllByRecursion (λ n. is_file nodes n ≡ true) files

-- the text of a path
abbrev pub text_of : List (List ℕ) → List ℕ
text_of path = codes "D:\\" ++ join_with_byte 92 path

-- a file's path after it moved
abbrev pub moved_path : List NodeRow → ℕ → ℕ → List (List ℕ)
moved_path nodes node to = path_of nodes to ++ name_of nodes node ∷ []

-- two paths have no more bytes than this together
abbrev pub most_bytes : ℕ
most_bytes = 65000

-- the move of a file into a folder; none if its paths have too many bytes
abbrev pub move_of : List NodeRow → ℕ → ℕ → Option FileOp
move_of nodes node to =
    let from = path_of nodes node in
    let moved = moved_path nodes node to in
    if nat_le (path_length from + path_length moved) most_bytes then Some (Move from moved) else None
