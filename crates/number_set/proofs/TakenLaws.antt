-- A set whose least member was taken out.
use Rattle.std.proofs.Common.{◌≡◌, ℕ, ◌||◌, true, not, cond, List, [], ◌∷◌, Some, None, refl, sym, ◌∙◌, ap}
use Rattle.std.proofs.lemmas.Option.{same_Some}
use Rattle.std.specs.Prelude.{drop, slice_get}
use Rattle.fsrm_base.specs.Numbers.{itself, is_in, is_set, without_number}
use Rattle.fsrm_base.proofs.EditedRows.{without_absent}
use Rattle.fsrm_base.proofs.NumberLaws.{first_once, set_rest}
use Rattle.fsrm_base.proofs.TestLaws.{eq_same}
use Rattle.number_set.specs.Numbers.{Numbers}

pub first_taken : (n : ℕ) (ns : List ℕ) → slice_get ns 0 ≡ Some n → ns ≡ n ∷ drop 1 ns
first_taken n [] h = cc
first_taken n (k ∷ ns) h = ap (λ j. j ∷ ns) (same_Some k n h)

-- the least is a member
pub first_in : (n : ℕ) (ns : List ℕ) → slice_get ns 0 ≡ Some n → is_in ns n ≡ true
first_in n ns h = ap (λ ms. is_in ms n) (first_taken n ns h) ∙ ap (λ b. b || is_in (drop 1 ns) n) (eq_same n)

-- and stands in the set once
rest_of : (n : ℕ) (ns : List ℕ) → is_set (n ∷ ns) ≡ true → without_number n (n ∷ ns) ≡ ns
rest_of n ns set =
    ap (λ b. cond (not b) (n ∷ without_number n ns) (without_number n ns)) (eq_same n)
    ∙ without_absent itself n ns (first_once n ns set)

pub rest_set : (ns : List ℕ) → is_set ns ≡ true → is_set (drop 1 ns) ≡ true
rest_set [] set = refl
rest_set (n ∷ ns) set = set_rest n ns set

pub rest_is : (n : ℕ) (ns : List ℕ) → is_set ns ≡ true → slice_get ns 0 ≡ Some n → drop 1 ns ≡ without_number n ns
rest_is n ns set h =
    let taken = first_taken n ns h in
    sym (ap (without_number n) taken ∙ rest_of n (drop 1 ns) (sym (ap is_set taken) ∙ set))

pub taken_is : (old new : Numbers) (n : ℕ) → is_set old.members ≡ true → slice_get old.members 0 ≡ Some n → new ≡ record old { members = drop 1 old.members } → new ≡ record old { members = without_number n old.members }
taken_is old new n set h is = is ∙ ap (λ ms. record old { members = ms }) (rest_is n old.members set h)

-- nothing is taken out of a set without a member
pub none_first : (ns : List ℕ) → slice_get ns 0 ≡ None → ns ≡ []
none_first [] h = refl
none_first (n ∷ ns) h = cc

none_left : (ns : List ℕ) → slice_get ns 0 ≡ None → drop 1 ns ≡ ns
none_left [] h = refl
none_left (n ∷ ns) h = cc

pub none_taken : (old new : Numbers) → slice_get old.members 0 ≡ None → new ≡ record old { members = drop 1 old.members } → new ≡ old
none_taken old new h is = is ∙ ap (λ ms. record old { members = ms }) (none_left old.members h)
