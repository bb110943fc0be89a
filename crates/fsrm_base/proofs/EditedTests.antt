-- Rows of which one is new, changed or gone: a test that all of them pass, or that none does.
use Rattle.std.proofs.Common.{◌≡◌, ℕ, ◌==◌, nat_lt, Bool, true, false, cond, ◌||◌, List, [], ◌∷◌, refl, ◌∙◌, ap}
use Rattle.std.specs.List.{list_all, list_any}
use Rattle.std.specs.Prelude.{filter}
use Rattle.fsrm_base.specs.Keyed.{with_row, with_change}
use Rattle.fsrm_base.proofs.TestLaws.{both, both_true, neither}

-- ---- that all pass
all_placed : {X : Type 0} (p : X → Bool) (row x : X) (xs more : List X) (b : Bool) → p row ≡ true → list_all p (x ∷ xs) ≡ true → list_all p more ≡ true → list_all p (cond b (row ∷ x ∷ xs) (x ∷ more)) ≡ true
all_placed p row x xs more true is all rest = both_true _ _ is all
all_placed p row x xs more false is all rest = both_true _ _ (both _ _ all).0 rest

pub list_all-with_row : {X : Type 0} (key : X → ℕ) (p : X → Bool) (row : X) (xs : List X) → p row ≡ true → list_all p xs ≡ true → list_all p (with_row key row xs) ≡ true
list_all-with_row key p row [] is all = both_true _ _ is refl
list_all-with_row key p row (x ∷ xs) is all =
    all_placed p row x xs (with_row key row xs) (nat_lt (key row) (key x)) is all (list_all-with_row key p row xs is (both _ _ all).1)

all_kept : {X : Type 0} (p : X → Bool) (x : X) (xs : List X) (b : Bool) → p x ≡ true → list_all p xs ≡ true → list_all p (cond b (x ∷ xs) xs) ≡ true
all_kept p x xs true is all = both_true _ _ is all
all_kept p x xs false is all = all

pub list_all-filter : {X : Type 0} (p q : X → Bool) (xs : List X) → list_all p xs ≡ true → list_all p (filter q xs) ≡ true
list_all-filter p q [] all = refl
list_all-filter p q (x ∷ xs) all = all_kept p x (filter q xs) (q x) (both _ _ all).0 (list_all-filter p q xs (both _ _ all).1)

changed_passes : {X : Type 0} (p : X → Bool) (c : X → X) (x : X) (b : Bool) → p x ≡ true → (p x ≡ true → p (c x) ≡ true) → p (cond b (c x) x) ≡ true
changed_passes p c x true is changed = changed is
changed_passes p c x false is changed = is

pub list_all-with_change : {X : Type 0} (key : X → ℕ) (p : X → Bool) (n : ℕ) (c : X → X) (xs : List X) → list_all p xs ≡ true → ((x : X) → p x ≡ true → p (c x) ≡ true) → list_all p (with_change key n c xs) ≡ true
list_all-with_change key p n c [] all changed = refl
list_all-with_change key p n c (x ∷ xs) all changed =
    both_true _ _ (changed_passes p c x (key x == n) (both _ _ all).0 (changed x)) (list_all-with_change key p n c xs (both _ _ all).1 changed)

-- ---- that none passes
none_placed : {X : Type 0} (p : X → Bool) (row x : X) (xs more : List X) (b : Bool) → p row ≡ false → list_any p (x ∷ xs) ≡ false → list_any p more ≡ false → list_any p (cond b (row ∷ x ∷ xs) (x ∷ more)) ≡ false
none_placed p row x xs more true is none rest = ap (λ b. b || list_any p (x ∷ xs)) is ∙ none
none_placed p row x xs more false is none rest = ap (λ b. b || list_any p more) (neither _ _ none).0 ∙ rest

pub list_any-with_row : {X : Type 0} (key : X → ℕ) (p : X → Bool) (row : X) (xs : List X) → p row ≡ false → list_any p xs ≡ false → list_any p (with_row key row xs) ≡ false
list_any-with_row key p row [] is none = ap (λ b. b || false) is
list_any-with_row key p row (x ∷ xs) is none =
    none_placed p row x xs (with_row key row xs) (nat_lt (key row) (key x)) is none (list_any-with_row key p row xs is (neither _ _ none).1)

none_kept : {X : Type 0} (p : X → Bool) (x : X) (xs : List X) (b : Bool) → p x ≡ false → list_any p xs ≡ false → list_any p (cond b (x ∷ xs) xs) ≡ false
none_kept p x xs true is none = ap (λ b. b || list_any p xs) is ∙ none
none_kept p x xs false is none = none

pub list_any-filter : {X : Type 0} (p q : X → Bool) (xs : List X) → list_any p xs ≡ false → list_any p (filter q xs) ≡ false
list_any-filter p q [] none = refl
list_any-filter p q (x ∷ xs) none = none_kept p x (filter q xs) (q x) (neither _ _ none).0 (list_any-filter p q xs (neither _ _ none).1)
