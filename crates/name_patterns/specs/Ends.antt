-- What names end with that match.
use Rattle.std.specs.Prelude.{◌≡◌, ℕ, ◌%◌, ◌==◌, Bool, true, List, [], ◌∷◌, ◌++◌}
use Rattle.std.specs.Int.{bit_at}
use Rattle.name_patterns.specs.declared.ends.Ends.{Ends}

-- whether a character is one of the ends, which are told by the numbers of characters modulo 128
abbrev pub is_end : Ends → ℕ → Bool
is_end ends c = bit_at ends.bits (c % 128) == 1

-- each folded name that passes a test ends with one of the ends, if it has a character
abbrev pub Cover : Ends → (List ℕ → Bool) → Type 0
Cover ends test = (cs : List ℕ) (c : ℕ) → test (cs ++ c ∷ []) ≡ true → is_end ends c ≡ true
