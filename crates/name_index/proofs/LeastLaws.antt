-- The least of what entries are above a mark.
use Rattle.std.proofs.Common.{◌≡◌, ℕ, ◌+◌, ◌*◌, ◌<◌, ◌≤◌, List, slice_index, min, inl, inr, ◌∙◌, ap, subst, arith}
use Rattle.std.proofs.lemmas.Bool.{cases_lt}
use Rattle.name_index.specs.Buckets.{IsLeast, above_mark}

-- the same of some slots at the front
pub record IsLeastOf (slots : List ℕ) (hash count least : ℕ) : Type 0 where
  pub bound : (k : ℕ) → k < count → least ≤ above_mark hash (slice_index slots k)
  pub place : ℕ
  pub inside : place < 15
  pub reached : least ≡ above_mark hash (slice_index slots place)

one_more : (slots : List ℕ) (hash count least value : ℕ) → IsLeastOf slots hash count least → count < 15 → value ≡ above_mark hash (slice_index slots count) → IsLeastOf slots hash (count + 1) (min least value)
one_more slots hash count least value is inside at =
    let low : (k : ℕ) → k < count + 1 → min least value ≤ above_mark hash (slice_index slots k) =
    λ k l. elim (cases_lt k count) [
      | inl before ↦ omega (arith, is.bound k before)
      | inr from ↦ let here : k ≡ count = omega (arith, from, l) in rw here (omega (arith, at))
    ] in
    elim (cases_lt least value) [
      | inl less ↦ record { bound = low; place = is.place; inside = is.inside; reached = omega (arith, is.reached, less) }
      | inr more ↦ record { bound = low; place = count; inside = inside; reached = omega (arith, at, more) }
    ]

pub three_more : (slots : List ℕ) (hash row least one two three : ℕ) → IsLeastOf slots hash (3 * row) least → row < 5
    → one ≡ above_mark hash (slice_index slots (3 * row)) → two ≡ above_mark hash (slice_index slots (3 * row + 1)) → three ≡ above_mark hash (slice_index slots (3 * row + 2))
    → IsLeastOf slots hash (3 * (row + 1)) (min least (min (min one two) three))
three_more slots hash row least one two three is inside first second third =
    let step1 = one_more slots hash (3 * row) least one is (omega (arith, inside)) first in
    let step2 = one_more slots hash (3 * row + 1) (min least one) two step1 (omega (arith, inside)) second in
    let next : 3 * row + 2 ≡ 3 * row + 1 + 1 = omega arith in
    let step3 = one_more slots hash (3 * row + 1 + 1) (min (min least one) two) three step2 (omega (arith, inside)) (third ∙ ap (λ k. above_mark hash (slice_index slots k)) next) in
    let count : 3 * row + 1 + 1 + 1 ≡ 3 * (row + 1) = omega arith in
    let mins : min (min (min least one) two) three ≡ min least (min (min one two) three) = omega arith in
    subst (λ n. IsLeastOf slots hash n (min least (min (min one two) three))) count (subst (IsLeastOf slots hash (3 * row + 1 + 1 + 1)) mins step3)

pub all_seen : (slots : List ℕ) (hash count least : ℕ) → ((k : ℕ) → slice_index slots k < 4294967296) → 15 ≤ count → IsLeastOf slots hash count least → IsLeast slots hash least
all_seen slots hash count least small all is = record { small = small; bound = λ k l. is.bound k (omega (arith, l, all)); place = is.place; inside = is.inside; reached = is.reached }

pub none_seen : (slots : List ℕ) (hash least : ℕ) → least ≡ above_mark hash (slice_index slots 0) → IsLeastOf slots hash 0 least
none_seen slots hash least at = record { bound = λ k l. absurd (omega (arith, l)); place = 0; inside = omega arith; reached = at }
