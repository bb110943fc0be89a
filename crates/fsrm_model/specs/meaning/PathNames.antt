-- The names of a path.
use Rattle.std.specs.Prelude.{ℕ, List}
use Rattle.std.specs.List.{slice_split}
use Rattle.fsrm_model.specs.lines.Reading.{is_backslash, without_last_empty}
use Rattle.fsrm_model.specs.declared.path.Names.{Names}

-- what stands between the backslashes. A last backslash ends the path
abbrev pub parts_of : List ℕ → List (List ℕ)
parts_of rest = without_last_empty (slice_split is_backslash rest)

-- the names that are still to come
unfoldable pub left : Names → List (List ℕ)
left names = parts_of names.rest.now
