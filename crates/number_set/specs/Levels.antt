-- The words of a set, and the levels above them.
use Rattle.std.specs.Prelude.{◌≡◌, ℕ, ◌+◌, ◌/◌, ◌<◌, List, length}
use Rattle.number_set.specs.declared.levels.Above.{Above}
use Rattle.number_set.specs.declared.levels.Above.TheVariants.{Nothing, Level}
use Rattle.number_set.specs.Words.{Marks}

-- one word needs no level above it
abbrev pub IsAbove : List ℕ → Above → Type 0
IsAbove words Nothing = length words ≡ 1
IsAbove words (Level above) = Marks above.value words

-- the words have room for all numbers below the bound
pub record IsLevel (bound : ℕ) (words : List ℕ) (above : Above) : Type 0 where
  pub small : bound < 4294967296
  pub room : length words ≡ bound / 64 + 1
  pub level : IsAbove words above

-- how many members a set can have: as many as there are numbers of 32 bits
abbrev pub most_members : ℕ
most_members = 4294967296
