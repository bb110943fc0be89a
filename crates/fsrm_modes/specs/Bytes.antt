-- What is taken from a script, and what is written.
use Rattle.std.specs.Prelude.{◌≡◌, ℕ, ◌≤◌, List, [], ◌∷◌, ◌++◌, length, false, Option, Some}
use Rattle.std.specs.List.{list_any}
use Rattle.fsrm_model.specs.lines.Script.{is_end}
use Rattle.fsrm_modes.specs.declared.status.Status.{Status}
use Rattle.fsrm_modes.specs.declared.status.Status.TheVariants.{ReadFault, TooLong}

-- these bytes were taken from the front of what was left, if that is told
pub record Taken (before after : Option (List ℕ)) (bytes : List ℕ) : Type 0 where
  pub rest : (script : List ℕ) → before ≡ Some script → (rest : List ℕ) × (script ≡ bytes ++ rest) × (after ≡ Some rest)

-- no more bytes than these were taken
pub record TakenMost (before after : Option (List ℕ)) (most : ℕ) : Type 0 where
  pub bytes : List ℕ
  pub few : length bytes ≤ most
  pub taken : Taken before after bytes

-- the bytes are a line, its LF, and the rest
pub record CutsLine (bytes line rest : List ℕ) : Type 0 where
  pub one_line : list_any is_end line ≡ false
  pub cut : bytes ≡ line ++ 10 ∷ rest

-- nothing is left, if that is told
pub record IsAtEnd (left : Option (List ℕ)) : Type 0 where
  pub ended : (script : List ℕ) → left ≡ Some script → script ≡ []

-- what a read that ends a run took: nothing, or one byte of a script that is too long
abbrev pub Loses : Status → Option (List ℕ) → Option (List ℕ) → Type 0
Loses ReadFault left_before left_after = left_after ≡ left_before
Loses TooLong left_before left_after = (bytes : List ℕ) × (length bytes ≡ 1) × Taken left_before left_after bytes
Loses other left_before left_after = ⊥
