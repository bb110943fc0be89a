-- The words of file groups: how a script gives their names and their patterns.
use Rattle.std.specs.Prelude.{ℕ, ◌==◌, nat_le, Bool, List, [], ◌∷◌, length, Ok}
use Rattle.std.specs.List.{list_all, slice_split}
use Rattle.fsrm_model.specs.declared.command.Refusal.TheVariants.{OutOfRange, InvalidName}
use Rattle.fsrm_model.specs.values.Limits.{most_patterns}
use Rattle.fsrm_model.specs.values.Patterns.{is_object_name, is_pattern}
use Rattle.fsrm_model.specs.lines.Reading.{Read, ◌>>=◌, guarded}

-- the name of a group or a template
abbrev pub object_from : List ℕ → Read (List ℕ)
object_from text = guarded (is_object_name text) InvalidName text

abbrev pub is_bar : ℕ → Bool
is_bar b = b == 124

-- patterns, parted by bars. That each of them is one is judged before there may be too many
abbrev pub patterns_from : List ℕ → Read (List (List ℕ))
patterns_from text = do
  patterns ← guarded (list_all is_pattern (slice_split is_bar text)) InvalidName (slice_split is_bar text)
  guarded (nat_le (length patterns) most_patterns) OutOfRange patterns

-- non-members: such patterns, or none if the text is empty
abbrev pub non_members_from : List ℕ → Read (List (List ℕ))
non_members_from [] = Ok []
non_members_from (b ∷ bs) = patterns_from (b ∷ bs)
