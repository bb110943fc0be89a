-- What names end with that match.
use Rattle.std.proofs.Common.{◌≡◌, ℕ, ◌+◌, ◌*◌, ◌%◌, ◌^◌, ◌<◌, ◌==◌, ◌||◌, Bool, true, inl, inr, List, [], ◌∷◌, ◌++◌, length, get_or, take, refl, sym, ◌∙◌, ap, arith}
use Rattle.std.proofs.lemmas.List.Folds.{list_any_more}
use Rattle.std.proofs.lemmas.Nat.{one_shl}
use Rattle.std.proofs.lemmas.Nat.Bits.{bit_at-pow_same}
use Rattle.std.specs.Int.{bit_at}
use Rattle.std.specs.List.{list_any}
use Rattle.ucd_case.specs.CaseFolding.{simple_fold}
use Rattle.fsrm_base.proofs.TestLaws.{both, clash, eq_is, eq_test, is_apart, is_or}
use Rattle.name_patterns.specs.Ends.{is_end}
use Rattle.name_patterns.specs.Folded.{matches_folded}
use Rattle.name_patterns.proofs.TailLaws.{last_passed}

-- the bit of a character
pub one_end : (c : ℕ) → is_end (record { bits = 1 * 2 ^ (c % 128) % 2 ^ 128 }) c ≡ true
one_end c =
    let k = c % 128 in
    eq_test _ 1 (ap (λ n. bit_at n k) (one_shl k 128 (omega arith)) ∙ bit_at-pow_same k)

-- a character of a pattern that stands for itself alone
pub last_is : (w c : ℕ) (ps before cs : List ℕ) → (w ≡ 42 → ⊥) → (w ≡ 63 → ⊥) → ps ≡ before ++ w ∷ [] → matches_folded ps (cs ++ c ∷ []) ≡ true → simple_fold w ≡ c
last_is w c ps before cs no_star no_any ends is =
    let stands = (both _ (matches_folded before cs) (sym (last_passed w no_star ps before (cs ++ c ∷ []) ends c cs _ refl refl) ∙ is)).0 in
    eq_is _ _ (elim (is_or (w == 63) (simple_fold w == c) stands) [ inl any ↦ absurd (clash (w == 63) any (is_apart w 63 no_any)) | inr its ↦ its ])

-- one of some items passes, or the next one does
pub some_more : {X : Type 0} (p : X → Bool) (xs : List X) (i : ℕ) (x : X) → i < length xs → x ≡ get_or xs i x → list_any p (take (i + 1) xs) ≡ true → (list_any p (take i xs) || p x) ≡ true
some_more p xs i x within read is = ap (λ y. list_any p (take i xs) || p y) read ∙ (sym (list_any_more p xs i x within) ∙ is)
