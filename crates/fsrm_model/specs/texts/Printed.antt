-- How words are written as a line, and nodes as their paths.
use Rattle.std.specs.Prelude.{ℕ, Bool, List, [], ◌∷◌, ◌++◌, codes, if◌then◌else◌}
use Rattle.std.specs.List.{join_with_byte}
use Rattle.fsrm_model.specs.declared.row.NodeRow.{NodeRow}
use Rattle.fsrm_model.specs.nodes.Tree.{path_of}

-- words joined by spaces, and the end of the line
abbrev pub line_of : List (List ℕ) → List ℕ
line_of [] = 10 ∷ []
line_of (word ∷ []) = word ++ 10 ∷ []
line_of (word ∷ next ∷ words) = word ++ 32 ∷ line_of (next ∷ words)

-- a line of a body is set in by two spaces
abbrev pub body_line : List (List ℕ) → List ℕ
body_line words = 32 ∷ 32 ∷ line_of words

-- and one below the first of an object by two more
abbrev pub deep_line : List (List ℕ) → List ℕ
deep_line words = 32 ∷ 32 ∷ body_line words

-- such a line of a text, after the label that tells what it is
abbrev pub labelled_line : List ℕ → List ℕ → List ℕ
labelled_line label text = deep_line (label ∷ text ∷ [])

-- whether a quota is enforced, or only watches
abbrev pub type_word : Bool → List ℕ
type_word enforce = if enforce then codes "hard" else codes "soft"

-- the volume, and the names from the root down to a node
abbrev pub path_text : List NodeRow → ℕ → List ℕ
path_text nodes n = codes "D:\\" ++ join_with_byte 92 (path_of nodes n)
