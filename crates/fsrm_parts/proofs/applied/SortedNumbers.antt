-- Numbers that were found in whatever order and then sorted: they are those of an ascending list that pass a test.
use Rattle.std.proofs.Common.{◌≡◌, ℕ, suc, ◌+◌, ◌≤◌, ◌==◌, Bool, true, false, cond, ◌&&◌, List, [], ◌∷◌, refl, sym, ◌∙◌, ap, arith, nat_lt, IsPermutation}
use Rattle.std.specs.Prelude.{filter, sum_by}
use Rattle.std.specs.List.Sorted.{IsNonDecreasing}
use Rattle.std.proofs.lemmas.List.Sorted.{list_any-IsPermutation, sum_by-IsPermutation}
use Rattle.std.proofs.lemmas.List.Sums.{sum_by-cons}
use Rattle.fsrm_base.specs.Numbers.{is_in, is_set}
use Rattle.fsrm_base.proofs.NumberLaws.{first_once, in_filter, same_set, set_filter, set_rest}
use Rattle.fsrm_base.proofs.TestLaws.{both_true, eq_is, eq_same, lt_test, neither}

abbrev one_if : Bool → ℕ
one_if true = 1
one_if false = 0

-- how often a number stands in a list
abbrev times : ℕ → List ℕ → ℕ
times n ns = sum_by (λ k. one_if (k == n)) ns

one_more : (n k : ℕ) (ns : List ℕ) → times n (k ∷ ns) ≡ one_if (k == n) + times n ns
one_more n k ns = sum_by-cons (λ k. one_if (k == n)) k ns

times_absent : (n : ℕ) (ns : List ℕ) → is_in ns n ≡ false → times n ns ≡ 0
times_absent n [] h = refl
times_absent n (k ∷ ns) h =
    let no = neither (k == n) (is_in ns n) h in
    omega (arith, one_more n k ns, ap one_if no.0, times_absent n ns no.1)

-- in a set each stands once at most
times_set : (n : ℕ) (ns : List ℕ) → is_set ns ≡ true → times n ns ≤ 1
times_set n [] h = omega arith
times_set n (k ∷ ns) h = let all = at (k == n) refl (times_set n ns (set_rest k ns h)) in omega (arith, one_more n k ns, all)
  where
    at : (b : Bool) → (k == n) ≡ b → times n ns ≤ 1 → one_if b + times n ns ≤ 1
    at true e rest =
        let none : times n ns ≡ 0 = times_absent n ns (ap (is_in ns) (sym (eq_is k n e)) ∙ first_once k ns h) in
        omega (arith, none)
    at false e rest = omega (arith, rest)

times_filter : (p : ℕ → Bool) (n : ℕ) (ns : List ℕ) → times n (filter p ns) ≤ times n ns
times_filter p n [] = omega arith
times_filter p n (k ∷ ns) =
    let all = at (p k) (times_filter p n ns) in omega (arith, one_more n k ns, all)
  where
    at : (b : Bool) → times n (filter p ns) ≤ times n ns → times n (cond b (k ∷ filter p ns) (filter p ns)) ≤ one_if (k == n) + times n ns
    at true rest =
        let r : times n (k ∷ filter p ns) ≤ one_if (k == n) + times n ns = omega (arith, rest, one_more n k (filter p ns)) in r
    at false rest = let r : times n (filter p ns) ≤ one_if (k == n) + times n ns = omega (arith, rest) in r

-- and numbers that don't fall, each of which stands once at most, are one
set_from : (ns : List ℕ) → IsNonDecreasing ns → ((n : ℕ) → times n ns ≤ 1) → is_set ns ≡ true
set_from [] rises once = refl
set_from (x ∷ []) rises once = refl
set_from (x ∷ y ∷ ns) rises once =
    both_true (nat_lt x y) (is_set (y ∷ ns)) (lt_test x y (omega (arith, rises 0 1 0 (omega arith) (omega arith), apart)))
    (set_from (y ∷ ns) (λ i j d le l. rises (suc i) (suc j) d (omega arith) (omega arith)) (λ n. let all = once n in omega (arith, all, one_more n x (y ∷ ns))))
  where
    twice : (b : Bool) → one_if b + (one_if (y == y) + times y ns) ≤ 1 → b ≡ false
    twice false all = refl
    twice true all = let own = ap one_if (eq_same y) in absurd (omega (arith, own, all))

    other : (x == y) ≡ false
    other =
        let all = once y in
        twice (x == y) (omega (arith, all, one_more y x (y ∷ ns), one_more y y ns))

    apart : x ≡ y → ⊥
    apart e = let t : (x == y) ≡ true = ap (λ k. x == k) (sym e) ∙ eq_same x in absurd (cc (sym other ∙ t))

pub chosen_sorted : (p : ℕ → Bool) (ns found sorted : List ℕ) → is_set ns ≡ true → IsPermutation ns found → IsPermutation (filter p found) sorted → IsNonDecreasing sorted → sorted ≡ filter p ns
chosen_sorted p ns found sorted set moved order rises =
    same_set sorted (filter p ns) (set_from sorted rises once) (set_filter p ns set) same
  where
    once : (n : ℕ) → times n sorted ≤ 1
    once n =
        let chosen : times n sorted ≡ times n (filter p found) = sum_by-IsPermutation (λ k. one_if (k == n)) (filter p found) sorted order in
        let all : times n found ≡ times n ns = sum_by-IsPermutation (λ k. one_if (k == n)) ns found moved in
        omega (arith, chosen, all, times_filter p n found, times_set n ns set)

    same : (n : ℕ) → is_in sorted n ≡ is_in (filter p ns) n
    same n =
        sym (list_any-IsPermutation (λ k. k == n) (filter p found) sorted order)
        ∙ (in_filter p found n
        ∙ (ap (λ b. p n && b) (sym (list_any-IsPermutation (λ k. k == n) ns found moved))
        ∙ sym (in_filter p ns n)))
