-- Why of all stars only the last one has to be tried again.
use Rattle.std.proofs.Common.{◌≡◌, ℕ, ◌==◌, Bool, true, false, inl, inr, List, [], ◌∷◌, length, refl, ◌∙◌, ap, arith}
use Rattle.fsrm_model.specs.values.Patterns.{some_end}
use Rattle.fsrm_base.proofs.TestLaws.{both, clash, is_or, or_later, same_tests}
use Rattle.name_patterns.specs.Folded.{matches_folded, stands_for_folded}
use Rattle.name_patterns.specs.Met.{IsPassed}

-- ---- the ends of a name
-- an empty pattern matches the last of them
pub any_end : (cs : List ℕ) → some_end (matches_folded []) cs ≡ true
any_end [] = refl
any_end (c ∷ cs) = any_end cs

-- a name is an end of itself
pub first_end : (test : List ℕ → Bool) (cs : List ℕ) → test cs ≡ true → some_end test cs ≡ true
first_end test [] h = h
first_end test (c ∷ cs) h = rw h refl

-- an end of an end is an end
end_of_end : (test : List ℕ → Bool) (cs : List ℕ) → some_end (some_end test) cs ≡ true → some_end test cs ≡ true
end_of_end test [] h = h
end_of_end test (c ∷ cs) h = elim (is_or _ _ h) [ inl now ↦ now | inr later ↦ or_later (test (c ∷ cs)) (some_end test cs) (end_of_end test cs later) ]

-- if a test asks another one of what is left after a character, an end that passes it leads to one that passes the other
module _ (test other : List ℕ → Bool) (none : test [] ≡ false) (asks : (c : ℕ) (cs : List ℕ) → test (c ∷ cs) ≡ true → other cs ≡ true) where
  past_one : (c : ℕ) (cs : List ℕ) → some_end test (c ∷ cs) ≡ true → some_end other cs ≡ true
  past_one c [] h = elim (is_or _ _ h) [ inl now ↦ asks c [] now | inr later ↦ absurd (clash _ later none) ]
  past_one c (d ∷ cs) h =
      elim (is_or _ _ h) [
        | inl now ↦ first_end other (d ∷ cs) (asks c (d ∷ cs) now)
        | inr later ↦ or_later (other (d ∷ cs)) (some_end other cs) (past_one d cs later)
      ]

-- ---- what a pattern and a name come to
module _ (wanted given : List ℕ) where
  -- one more character of both
  pub one_passed : (pattern name : List ℕ) (w c : ℕ) (ps cs : List ℕ) → (w == 42) ≡ false → stands_for_folded w c ≡ true → pattern ≡ w ∷ ps → name ≡ c ∷ cs → IsPassed wanted given pattern name → IsPassed wanted given ps cs
  one_passed pattern name w c ps cs no_star stands begins named passed = record {
    here = passed.here ∙ rw (begins, named, no_star, stands) refl;
    later = λ some. past_one (matches_folded (w ∷ ps)) (matches_folded ps) (rw no_star refl) (λ d ds now. (both (stands_for_folded w d) (matches_folded ps ds) (rw no_star at now)).1) c cs (rw (begins, named) at (passed.later some));
    pattern_most = omega (arith, ap length begins, passed.pattern_most);
    name_most = omega (arith, ap length named, passed.name_most);
  }

  -- a star: any end that one before it leads to is one that it leads to
  pub star_same : (after rest : List ℕ) → IsPassed wanted given (42 ∷ after) rest → some_end (matches_folded wanted) given ≡ some_end (matches_folded after) rest
  star_same after rest passed =
      same_tests _ _ (λ some. end_of_end (matches_folded after) rest (passed.later some)) (λ found. first_end (matches_folded wanted) given (passed.here ∙ found))
