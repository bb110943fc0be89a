-- The parts of a path.
use Rattle.std.specs.Prelude.{◌≡◌, ◌≤◌, ◌+◌, ◌==◌, ◌||◌, ℕ, Bool, true, nat_lt, List, ◌∷◌, length, take, drop, slice_index}
use Rattle.std.specs.List.{list_all}
use Rattle.fsrm_model.specs.values.Name.{is_name}
use Rattle.fsrm_model.specs.meaning.PathNames.{parts_of}

-- whether no part is empty
abbrev pub has_no_empty_part : List ℕ → Bool
has_no_empty_part rest = list_all (λ part. nat_lt 0 (length part)) (parts_of rest)

-- the first part of a text is a name of so many bytes
pub record IsFirstName (text : List ℕ) (count : ℕ) : Type 0 where
  pub within : count ≤ length text
  pub ended : (count == length text || slice_index text count == 92) ≡ true
  pub name : is_name (take count text) ≡ true
  pub parts : parts_of text ≡ take count text ∷ parts_of (drop (count + 1) text)
