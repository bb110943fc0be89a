-- Whether a name matches is told by its folded characters.
use Rattle.std.proofs.Common.{◌≡◌, ℕ, Bool, List, [], ◌∷◌, refl}
use Rattle.std.specs.Prelude.{chars, map}
use Rattle.std.specs.List.{list_any}
use Rattle.ucd_case.specs.CaseFolding.{simple_fold}
use Rattle.fsrm_model.specs.values.Name.{folded}
use Rattle.fsrm_model.specs.values.Patterns.{matches, meant, one_then, pattern_matches, some_end}
use Rattle.name_patterns.specs.Folded.{matches_folded, one_folded_then, pattern_matches_folded, some_matches}

module _ (f g : List ℕ → Bool) (same : (cs : List ℕ) → f cs ≡ g (map simple_fold cs)) where
  some_end_folded : (cs : List ℕ) → some_end f cs ≡ some_end g (map simple_fold cs)
  some_end_folded [] = same []
  some_end_folded (c ∷ cs) = rw (same (c ∷ cs), some_end_folded cs) refl

  one_as_folded : (p : ℕ) (cs : List ℕ) → one_then p f cs ≡ one_folded_then p g (map simple_fold cs)
  one_as_folded p [] = refl
  one_as_folded p (c ∷ cs) = rw (same cs) refl

matched_folded : (ps cs : List ℕ) → matches ps cs ≡ matches_folded ps (map simple_fold cs)
matched_folded [] [] = refl
matched_folded [] (c ∷ cs) = refl
matched_folded (p ∷ ps) cs =
    rw (some_end_folded (matches ps) (matches_folded ps) (matched_folded ps) cs, one_as_folded (matches ps) (matches_folded ps) (matched_folded ps) p cs) refl

pub pattern_folded : (text pattern : List ℕ) → pattern_matches text pattern ≡ pattern_matches_folded (folded text) pattern
pattern_folded text pattern = matched_folded (chars (meant pattern)) (chars text)

pub some_folded : (patterns : List (List ℕ)) (text : List ℕ) → list_any (pattern_matches text) patterns ≡ some_matches patterns (folded text)
some_folded [] text = refl
some_folded (pattern ∷ patterns) text = rw (pattern_folded text pattern, some_folded patterns text) refl
