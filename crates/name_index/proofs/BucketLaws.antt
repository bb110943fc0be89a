-- Entries in buckets.
use Rattle.std.proofs.Common.{◌≡◌, ◌≢◌, ℕ, ◌%◌, ◌<◌, ◌≤◌, ◌⊎◌, List, length, set, get_or, inl, inr, sym, ◌∙◌, ap, subst, arith, get_or-set_same, get_or-set_other}
use Rattle.std.proofs.lemmas.Bool.{cases_eq}
use Rattle.name_index.specs.declared.bucket.Bucket.{Bucket}
use Rattle.name_index.specs.Buckets.{HasEntry, IsBucket, IsLeast, IsNumber, above_mark, entry_of, mark_of, slot_of}

-- a free slot has no number
pub free_has_none : (slot : ℕ) → slot ≡ 4294967295 → IsNumber (slot % 1048576) → ⊥
free_has_none slot is number = omega (arith, is, number)

-- what an entry is made of
pub entry_mark : (hash number : ℕ) → IsNumber number → mark_of (entry_of hash number) ≡ mark_of hash
entry_mark hash number small = omega arith

pub entry_number : (hash number : ℕ) → IsNumber number → entry_of hash number % 1048576 ≡ number
entry_number hash number small = omega arith

pub entry_not_free : (hash number : ℕ) → IsNumber number → entry_of hash number ≡ 4294967295 → ⊥
entry_not_free hash number small is = omega (arith, is)

-- ---- what is above a mark
above_same : (hash slot : ℕ) → hash < 4294967296 → slot < 4294967296 → mark_of slot ≡ mark_of hash → above_mark hash slot ≡ slot % 1048576
above_same hash slot small small' same = omega arith

above_low : (hash slot : ℕ) → hash < 4294967296 → slot < 4294967296 → IsNumber (above_mark hash slot) → (mark_of slot ≡ mark_of hash) × (slot % 1048576 ≡ above_mark hash slot)
above_low hash slot small small' low = (omega arith, omega arith)

module _ (bucket : Bucket) (hash least : ℕ) (small : hash < 4294967296) (is_least : IsLeast bucket.slots hash least) where
  -- an entry that has the mark is found
  pub found : IsBucket bucket → (number : ℕ) → IsNumber number → HasEntry bucket (entry_of hash number) → least ≡ number
  found kept number is_number e =
      let j = e.place in
      let i = is_least.place in
      let there : slot_of bucket j ≡ entry_of hash number = e.there in
      let mark : mark_of (slot_of bucket j) ≡ mark_of hash = ap mark_of there ∙ entry_mark hash number is_number in
      let low : slot_of bucket j % 1048576 ≡ number = ap (λ s. s % 1048576) there ∙ entry_number hash number is_number in
      let above : above_mark hash (slot_of bucket j) ≡ number = above_same hash (slot_of bucket j) small (is_least.small j) mark ∙ low in
      let bound : least ≤ above_mark hash (slot_of bucket j) = is_least.bound j e.inside in
      let number' : IsNumber (above_mark hash (slot_of bucket i)) = omega (arith, bound, above, is_least.reached, is_number) in
      let other = above_low hash (slot_of bucket i) small (is_least.small i) number' in
      let one : i ≡ j = kept i j is_least.inside e.inside (omega (arith, other.1, number')) (omega (arith, low, is_number)) (other.0 ∙ sym mark) in
      is_least.reached ∙ (ap (λ k. above_mark hash (slot_of bucket k)) one ∙ above)

  -- if the least is no number, no entry has the mark
  pub none_marked : 1048575 ≤ least → (k : ℕ) → k < 15 → IsNumber (slot_of bucket k % 1048576) → mark_of (slot_of bucket k) ≡ mark_of hash → ⊥
  none_marked high k inside number same =
      let bound : least ≤ above_mark hash (slot_of bucket k) = is_least.bound k inside in
      let above : above_mark hash (slot_of bucket k) ≡ slot_of bucket k % 1048576 = above_same hash (slot_of bucket k) small (is_least.small k) same in
      omega (arith, bound, above, number)

-- ---- a slot that is written
module _ (bucket new : Bucket) (place value : ℕ) (inside : place < 15) (long : length bucket.slots ≡ 15) (slots : new.slots ≡ set bucket.slots place value) where
  pub written : slot_of new place ≡ value
  written = ap (λ (s : List ℕ). get_or s place 0) slots ∙ get_or-set_same bucket.slots place value 0 (omega (arith, inside, long))

  pub left_alone : (k : ℕ) → k ≢ place → slot_of new k ≡ slot_of bucket k
  left_alone k other = ap (λ (s : List ℕ). get_or s k 0) slots ∙ get_or-set_other bucket.slots place k value 0 other

  -- an entry that stood elsewhere
  pub stays : slot_of bucket place ≡ 4294967295 → (h n : ℕ) → IsNumber n → HasEntry bucket (entry_of h n) → HasEntry new (entry_of h n)
  stays was_free h n number e =
      let other : e.place ≢ place = λ is. entry_not_free h n number (sym e.there ∙ (ap (slot_of bucket) is ∙ was_free)) in
      record { place = e.place; inside = e.inside; there = left_alone e.place other ∙ e.there }

  -- one mark more
  pub with_mark : (hash : ℕ) → IsBucket bucket → mark_of value ≡ mark_of hash
      → ((k : ℕ) → k < 15 → IsNumber (slot_of bucket k % 1048576) → mark_of (slot_of bucket k) ≡ mark_of hash → ⊥) → IsBucket new
  with_mark hash kept mark none j k in_j in_k number number' same =
      elim (cases_eq j place) [
        | inl is ↦
            elim (cases_eq k place) [
              | inl is' ↦ is ∙ sym is'
              | inr other ↦
                  let here : mark_of (slot_of new j) ≡ mark_of hash = ap (λ i. mark_of (slot_of new i)) is ∙ (ap mark_of written ∙ mark) in
                  let there = left_alone k other in
                  absurd (none k in_k (subst (λ s. IsNumber (s % 1048576)) there number') (ap mark_of (sym there) ∙ (sym same ∙ here)))
            ]
        | inr other ↦
            let there = left_alone j other in
            elim (cases_eq k place) [
              | inl is' ↦
                  let here : mark_of (slot_of new k) ≡ mark_of hash = ap (λ i. mark_of (slot_of new i)) is' ∙ (ap mark_of written ∙ mark) in
                  absurd (none j in_j (subst (λ s. IsNumber (s % 1048576)) there number) (ap mark_of (sym there) ∙ (same ∙ here)))
              | inr other' ↦
                  let there' = left_alone k other' in
                  kept j k in_j in_k (subst (λ s. IsNumber (s % 1048576)) there number) (subst (λ s. IsNumber (s % 1048576)) there' number') (ap mark_of (sym there) ∙ (same ∙ ap mark_of there'))
            ]
      ]

-- ---- slots that stay, or are freed
pub fewer : (bucket new : Bucket) → ((k : ℕ) → k < 15 → (slot_of new k ≡ slot_of bucket k) ⊎ (slot_of new k ≡ 4294967295)) → IsBucket bucket → IsBucket new
fewer bucket new each kept j k in_j in_k number number' same =
    elim (each j in_j) [
      | inr is ↦ absurd (free_has_none _ is number)
      | inl there ↦
          elim (each k in_k) [
            | inr is ↦ absurd (free_has_none _ is number')
            | inl there' ↦
                kept j k in_j in_k (subst (λ s. IsNumber (s % 1048576)) there number) (subst (λ s. IsNumber (s % 1048576)) there' number') (ap mark_of (sym there) ∙ (same ∙ ap mark_of there'))
          ]
    ]
