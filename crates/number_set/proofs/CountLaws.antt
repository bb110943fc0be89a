-- How many members a set has with a number more, or one less.
use Rattle.std.proofs.Common.{◌≡◌, ℕ, ◌+◌, ◌==◌, ◌||◌, ◌&&◌, not, Bool, true, false, cond, List, length, inl, inr, sym, ap, ◌∙◌, arith}
use Rattle.fsrm_base.specs.Keyed.{with_row}
use Rattle.fsrm_base.specs.Numbers.{itself, is_in, is_set, with_number, without_number}
use Rattle.fsrm_base.proofs.EditedRows.{length-with_row}
use Rattle.fsrm_base.proofs.NumberLaws.{in_with, in_without, same_set, set_with, set_without}
use Rattle.fsrm_base.proofs.TestLaws.{eq_is, eq_same, is_or_not}

pub count_with : (n : ℕ) (ns : List ℕ) → is_in ns n ≡ false → length (with_number n ns) ≡ length ns + 1
count_with n ns absent =
    let inserted : with_number n ns ≡ with_row itself n ns = ap (λ (b : Bool). cond b ns (with_row itself n ns)) absent in
    omega (arith, ap length inserted, length-with_row itself n ns)

pub count_without : (n : ℕ) (ns : List ℕ) → is_set ns ≡ true → is_in ns n ≡ true → length (without_number n ns) + 1 ≡ length ns
count_without n ns set there =
    let less : List ℕ = without_number n ns in
    let gone : is_in less n ≡ false = in_without n n ns ∙ ap (λ (b : Bool). not b && is_in ns n) (eq_same n) in
    let again : with_number n less ≡ ns = same_set (with_number n less) ns (set_with n less (set_without n ns set)) set (λ m. in_with n m less ∙ (ap (λ (b : Bool). (n == m) || b) (in_without n m ns) ∙ back m)) in
    omega (arith, count_with n less gone, ap length again)
  where
    back : (m : ℕ) → ((n == m) || (not (n == m) && is_in ns m)) ≡ is_in ns m
    back m =
        elim (is_or_not (n == m)) [
          | inl e ↦ ap (λ (b : Bool). b || (not b && is_in ns m)) e ∙ (sym there ∙ ap (is_in ns) (eq_is n m e))
          | inr e ↦ ap (λ (b : Bool). b || (not b && is_in ns m)) e
        ]
