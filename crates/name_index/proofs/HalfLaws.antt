-- Halves of a bucket, slot by slot.
use Rattle.std.proofs.Common.{◌≡◌, ℕ, ◌+◌, ◌<◌, ◌≤◌, ◌⊎◌, Bool, true, false, List, length, set, get_or, replicate, inl, inr, refl, sym, ◌∙◌, ap, arith}
use mathlib.Core.Bool.{beq}
use Rattle.std.proofs.lemmas.Simd.{get_or-replicate}
use Rattle.std.proofs.lemmas.Bool.{both_ways, cases_eq, cases_lt}
use Rattle.name_index.specs.declared.bucket.Bucket.{Bucket}
use Rattle.name_index.specs.Buckets.{IsHalf, goes, slot_of}
use Rattle.name_index.proofs.BucketLaws.{left_alone, written}

-- so many slots at the front are done, and the others are free
pub record IsHalfOf (lead count : ℕ) (upper : Bool) (done : ℕ) (whole half : Bucket) : Type 0 where
  pub lost : half.lost ≡ whole.lost
  pub long : length half.slots ≡ 15
  pub kept : (k : ℕ) → k < done → goes lead count (slot_of whole k) ≡ upper → slot_of half k ≡ slot_of whole k
  pub freed : (k : ℕ) → k < 15 → (slot_of half k ≡ slot_of whole k) ⊎ (slot_of half k ≡ 4294967295)

-- the next slot is written
pub one_written : (lead count : ℕ) (upper : Bool) (done : ℕ) (whole half new : Bucket) → done < 15 → IsHalfOf lead count upper done whole half
    → new.lost ≡ half.lost → length new.slots ≡ 15 → new.slots ≡ set half.slots done (slot_of whole done) → IsHalfOf lead count upper (done + 1) whole new
one_written lead count upper done whole half new inside is lost long slots =
    let here : slot_of new done ≡ slot_of whole done = written half new done (slot_of whole done) inside is.long slots in
    record {
      lost = lost ∙ is.lost;
      long = long;
      kept = λ k l goes. elim (cases_lt k done) [
        | inl before ↦ left_alone half new done (slot_of whole done) inside is.long slots k (omega (arith, before)) ∙ is.kept k before goes
        | inr from ↦ let at : k ≡ done = omega (arith, from, l) in rw at here
      ];
      freed = λ k l. elim (cases_eq k done) [
        | inl at ↦ inl (ap (slot_of new) at ∙ (here ∙ sym (ap (slot_of whole) at)))
        | inr other ↦
            let there = left_alone half new done (slot_of whole done) inside is.long slots k other in
            elim (is.freed k l) [
              | inl same ↦ inl (there ∙ same)
              | inr free ↦ inr (there ∙ free)
            ]
      ];
    }

-- the next slot is left free
pub one_left : (lead count : ℕ) (upper : Bool) (done : ℕ) (whole half : Bucket) → (goes lead count (slot_of whole done) ≡ upper → ⊥) → IsHalfOf lead count upper done whole half → IsHalfOf lead count upper (done + 1) whole half
one_left lead count upper done whole half other is = record {
  lost = is.lost;
  long = is.long;
  kept = λ k l goes. elim (cases_lt k done) [
    | inl before ↦ is.kept k before goes
    | inr from ↦ let at : k ≡ done = omega (arith, from, l) in absurd (other (rw at at goes))
  ];
  freed = is.freed;
}

pub all_done : (lead count : ℕ) (upper : Bool) (done : ℕ) (whole half : Bucket) → 15 ≤ done → IsHalfOf lead count upper done whole half → IsHalf lead count upper whole half
all_done lead count upper done whole half all is = record { lost = is.lost; kept = λ k l. is.kept k (omega (arith, l, all)); freed = is.freed }

pub none_done : (lead count : ℕ) (upper : Bool) (whole half : Bucket) → half.lost ≡ whole.lost → half.slots ≡ replicate 15 4294967295 → IsHalfOf lead count upper 0 whole half
none_done lead count upper whole half lost slots = record {
  lost = lost;
  long = ap length slots;
  kept = λ k l. absurd (omega (arith, l));
  freed = λ k l. inr (ap (λ (s : List ℕ). get_or s k 0) slots ∙ get_or-replicate 15 k 4294967295 0 l);
}

-- two tests that aren't the same
same_as_itself : (b : Bool) → beq b b ≡ true
same_as_itself true = refl
same_as_itself false = refl

pub tests_apart : (a b : Bool) → beq a b ≡ false → a ≡ b → ⊥
tests_apart a b other same = both_ways (beq a b) other (ap (λ x. beq x b) same ∙ same_as_itself b)
