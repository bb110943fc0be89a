-- Matching a name by its folded characters.
use Rattle.std.specs.Prelude.{ℕ, ◌==◌, ◌&&◌, ◌||◌, Bool, true, false, List, [], ◌∷◌, chars, if◌then◌else◌}
use Rattle.std.specs.List.{list_any}
use Rattle.ucd_case.specs.CaseFolding.{simple_fold}
use Rattle.fsrm_model.specs.values.Patterns.{meant, some_end}

-- whether a character of a pattern stands for a folded one of a name
abbrev pub stands_for_folded : ℕ → ℕ → Bool
stands_for_folded p c = (p == 63) || (simple_fold p == c)

-- whether a name begins with a character that one of the pattern stands for, and its rest passes a test
abbrev pub one_folded_then : ℕ → (List ℕ → Bool) → List ℕ → Bool
one_folded_then p test [] = false
one_folded_then p test (c ∷ cs) = stands_for_folded p c && test cs

-- whether a folded name matches
abbrev pub matches_folded : List ℕ → List ℕ → Bool
matches_folded [] [] = true
matches_folded [] (c ∷ cs) = false
matches_folded (p ∷ ps) cs = if p == 42 then some_end (matches_folded ps) cs else one_folded_then p (matches_folded ps) cs

-- whether it matches a pattern's text
abbrev pub pattern_matches_folded : List ℕ → List ℕ → Bool
pattern_matches_folded name pattern = matches_folded (chars (meant pattern)) name

-- whether it matches some pattern
abbrev pub some_matches : List (List ℕ) → List ℕ → Bool
some_matches patterns name = list_any (pattern_matches_folded name) patterns
