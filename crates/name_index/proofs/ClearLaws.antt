-- An entry that is taken out of a bucket.
use Rattle.std.proofs.Common.{◌≡◌, ℕ, ◌<◌, ◌==◌, ◌%◌, ◌⊎◌, false, length, set, inl, inr, refl, sym, ◌∙◌, ap}
use Rattle.std.proofs.lemmas.Bool.{cases_eq, eqb-false}
use Rattle.name_index.specs.declared.bucket.Bucket.{Bucket}
use Rattle.name_index.specs.Buckets.{HasEntry, IsBucket, IsNumber, entry_of, slot_of}
use Rattle.name_index.proofs.BucketLaws.{entry_number, fewer, left_alone, written}

-- some slots that had the entry are free now
pub record IsCleared (bucket : Bucket) (entry : ℕ) (new : Bucket) : Type 0 where
  pub lost : new.lost ≡ bucket.lost
  pub long : length new.slots ≡ 15
  pub each : (k : ℕ) → k < 15 → (slot_of new k ≡ slot_of bucket k) ⊎ ((slot_of bucket k ≡ entry) × (slot_of new k ≡ 4294967295))

pub none_cleared : (bucket : Bucket) (entry : ℕ) → length bucket.slots ≡ 15 → IsCleared bucket entry bucket
none_cleared bucket entry long = record { lost = refl; long = long; each = λ k l. inl refl }

pub one_cleared : (bucket : Bucket) (entry : ℕ) (now new : Bucket) (place : ℕ) → IsCleared bucket entry now → place < 15 → slot_of now place ≡ entry
    → new.lost ≡ now.lost → length new.slots ≡ 15 → new.slots ≡ set now.slots place 4294967295 → IsCleared bucket entry new
one_cleared bucket entry now new place is inside at lost long slots = record {
  lost = lost ∙ is.lost;
  long = long;
  each = λ k l. elim (cases_eq k place) [
    | inl here ↦
        let free : slot_of new k ≡ 4294967295 = ap (slot_of new) here ∙ written now new place 4294967295 inside is.long slots in
        let had : slot_of now k ≡ entry = ap (slot_of now) here ∙ at in
        elim (is.each k l) [
          | inl same ↦ inr (sym same ∙ had, free)
          | inr gone ↦ inr (gone.0, free)
        ]
    | inr other ↦
        let there = left_alone now new place 4294967295 inside is.long slots k other in
        elim (is.each k l) [
          | inl same ↦ inl (there ∙ same)
          | inr gone ↦ inr (gone.0, there ∙ gone.1)
        ]
  ];
}

module _ (bucket new : Bucket) (entry : ℕ) (is : IsCleared bucket entry new) where
  pub still_bucket : IsBucket bucket → IsBucket new
  still_bucket kept =
      fewer bucket new (λ k l. elim (is.each k l) [ inl same ↦ inl same | inr gone ↦ inr gone.1 ]) kept

  pub others_stay : (hash number : ℕ) → IsNumber number → entry ≡ entry_of hash number
      → (h n : ℕ) → (n == number) ≡ false → IsNumber n → HasEntry bucket (entry_of h n) → HasEntry new (entry_of h n)
  others_stay hash number is_number made h n other is_number' e =
      elim (is.each e.place e.inside) [
        | inl same ↦ record { place = e.place; inside = e.inside; there = same ∙ e.there }
        | inr gone ↦
            let one : entry_of h n ≡ entry_of hash number = sym e.there ∙ (gone.0 ∙ made) in
            let numbers : n ≡ number = sym (entry_number h n is_number') ∙ (ap (λ s. s % 1048576) one ∙ entry_number hash number is_number) in
            absurd (eqb-false n number other numbers)
      ]
