-- Sets that are copied and listed number by number.
use Rattle.std.proofs.Common.{◌≡◌, ℕ, ◌+◌, ◌<◌, ◌≤◌, ◌==◌, Bool, true, false, ◌||◌, ◌&&◌, List, [], ◌∷◌, ◌++◌, Some, refl, sym, ◌∙◌, ap, subst, arith, append_assoc, nat_lt}
use Rattle.std.proofs.lemmas.Bool.Decides.{nat_tests}
use Rattle.std.specs.Prelude.{drop, slice_get}
use Rattle.fsrm_base.specs.Numbers.{is_in, is_set, with_number}
use Rattle.fsrm_base.proofs.TestLaws.{eq_is, lt_test}
use Rattle.number_set.specs.Numbers.{Numbers}
use Rattle.number_set.proofs.TakenLaws.{first_taken}
use Rattle.fsrm_base.proofs.NumberLaws.{in_with, set_with, same_set}

-- the least member is taken out
pub listed_more : (list whole ns rest : List ℕ) (n : ℕ) → slice_get ns 0 ≡ Some n → rest ≡ drop 1 ns → list ++ ns ≡ whole → (list ++ n ∷ []) ++ rest ≡ whole
listed_more list whole ns rest n e left so_far =
    append_assoc list (n ∷ []) rest ∙ (ap (λ ks. list ++ n ∷ ks) left ∙ (ap (λ ks. list ++ ks) (sym (first_taken n ns e)) ∙ so_far))

-- the members below a number, copied
pub record Copies (whole : Numbers) (below : ℕ) (copy : Numbers) : Type 0 where
  pub bound : copy.bound ≡ whole.bound
  pub set : is_set copy.members ≡ true
  pub members : (n : ℕ) → is_in copy.members n ≡ (nat_lt n below && is_in whole.members n)

below_more : (n k : ℕ) → nat_lt n (k + 1) ≡ ((k == n) || nat_lt n k)
below_more n k = grind (arith, nat_tests)

pub copied_in : (whole : Numbers) (k : ℕ) (copy new : Numbers) → Copies whole k copy → is_in whole.members k ≡ true → new ≡ record copy { members = with_number k copy.members } → Copies whole (k + 1) new
copied_in whole k copy new c h e =
    subst (Copies whole (k + 1)) (sym e)
    (record {
      bound = c.bound;
      set = set_with k copy.members c.set;
      members = λ n. in_with k n copy.members ∙ (ap (λ b. (k == n) || b) (c.members n) ∙ (at n (k == n) refl ∙ ap (λ b. b && is_in whole.members n) (sym (below_more n k))));
    })
  where
    at : (n : ℕ) (b : Bool) → (k == n) ≡ b → (b || (nat_lt n k && is_in whole.members n)) ≡ ((b || nat_lt n k) && is_in whole.members n)
    at n true e = sym (subst (λ j. is_in whole.members j ≡ true) (eq_is k n e) h)
    at n false e = refl

pub copied_out : (whole : Numbers) (k : ℕ) (copy : Numbers) → Copies whole k copy → is_in whole.members k ≡ false → Copies whole (k + 1) copy
copied_out whole k copy c h =
    record {
      bound = c.bound;
      set = c.set;
      members = λ n. c.members n ∙ (at n (k == n) refl ∙ ap (λ b. b && is_in whole.members n) (sym (below_more n k)));
    }
  where
    never : (b : Bool) → (b && false) ≡ false
    never true = refl
    never false = refl

    at : (n : ℕ) (b : Bool) → (k == n) ≡ b → (nat_lt n k && is_in whole.members n) ≡ (((k == n) || nat_lt n k) && is_in whole.members n)
    at n true e =
        let lacks : is_in whole.members n ≡ false = subst (λ j. is_in whole.members j ≡ false) (eq_is k n e) h in
        ap (λ b. nat_lt n k && b) lacks ∙ (never (nat_lt n k) ∙ sym (ap (λ b. ((k == n) || nat_lt n k) && b) lacks ∙ never ((k == n) || nat_lt n k)))
    at n false e = sym (ap (λ b. (b || nat_lt n k) && is_in whole.members n) e)

pub all_copied : (whole : Numbers) (count : ℕ) (copy : Numbers) → whole.bound ≤ count → is_set whole.members ≡ true → ((n : ℕ) → is_in whole.members n ≡ true → n < whole.bound) → Copies whole count copy → copy ≡ whole
all_copied whole count copy most h below c =
    let same = same_set copy.members whole.members c.set h (λ n. c.members n ∙ at n (is_in whole.members n) refl) in
    ap (λ b. record copy { bound = b }) c.bound ∙ ap (λ ms. record whole { members = ms }) same
  where
    at : (n : ℕ) (b : Bool) → is_in whole.members n ≡ b → (nat_lt n count && is_in whole.members n) ≡ is_in whole.members n
    at n true e = let low = below n e in ap (λ b. b && is_in whole.members n) (lt_test n count (omega arith))
    at n false e = ap (λ b. nat_lt n count && b) e ∙ (never (nat_lt n count) ∙ sym e)
      where
        never : (b : Bool) → (b && false) ≡ false
        never true = refl
        never false = refl
