-- What is shown of a text.
use Rattle.std.specs.Prelude.{◌≡◌, ℕ, List, ◌++◌, Option}
use Rattle.std.specs.Io.KnownBytes.{append_known}

-- the whole begins with the front
abbrev pub IsFront : List ℕ → List ℕ → Type 0
IsFront front whole = (back : List ℕ) × (whole ≡ front ++ back)

-- a front of the whole was shown
pub record ShowsFront (before after : Option (List ℕ)) (whole : List ℕ) : Type 0 where
  pub front : List ℕ
  pub shown : after ≡ append_known before front
  pub is_front : IsFront front whole
