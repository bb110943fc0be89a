-- What a pattern and a name begin and end with, and what they come to.
use Rattle.std.specs.Prelude.{◌≡◌, ℕ, ◌≤◌, true, false, List, [], ◌∷◌, ◌++◌, chars, length}
use Rattle.std.specs.Str.{IsUtf8}
use Rattle.fsrm_model.specs.values.Patterns.{some_end}
use Rattle.name_patterns.specs.declared.matching.Met.{Met}
use Rattle.name_patterns.specs.declared.matching.Met.TheVariants.{Star, Ended, Apart}
use Rattle.name_patterns.specs.Folded.{matches_folded}

-- a text begins with a character, and the rest is a text
pub record BeginsWith (text : List ℕ) (character : ℕ) (rest : List ℕ) : Type 0 where
  pub is_text : IsUtf8 rest
  pub characters : chars text ≡ character ∷ chars rest

-- a text ends with a character, and what is before it is a text
pub record EndsWith (text : List ℕ) (character : ℕ) (before : List ℕ) : Type 0 where
  pub is_text : IsUtf8 before
  pub characters : chars text ≡ chars before ++ character ∷ []

-- what is left of a pattern and a name after characters of both that stand for one another
pub record IsPassed (wanted given pattern name : List ℕ) : Type 0 where
  -- both match if what is left does, and only then
  pub here : matches_folded wanted given ≡ matches_folded pattern name
  -- and if the pattern matches some end of the name, what is left of it matches some end of what is left
  pub later : some_end (matches_folded wanted) given ≡ true → some_end (matches_folded pattern) name ≡ true
  pub pattern_most : length pattern ≤ length wanted
  pub name_most : length name ≤ length given

-- what a pattern's text and a name come to, whose folded characters are given
abbrev pub HaveMet : {N : Type 0} → (N → List ℕ) → List ℕ → N → Met N → Type 0
HaveMet folded pattern name (Star after rest) = IsPassed (chars pattern) (folded name) (42 ∷ chars after.now) (folded rest) × IsUtf8 after.now
HaveMet folded pattern name Ended = matches_folded (chars pattern) (folded name) ≡ true
HaveMet folded pattern name Apart = matches_folded (chars pattern) (folded name) ≡ false
