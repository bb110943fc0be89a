-- An index of which one bucket is changed.
use Rattle.std.proofs.Common.{◌≡◌, ◌≢◌, ℕ, ◌<◌, true, List, [], length, set, get_or, inl, inr, refl, sym, ◌∙◌, ap, subst, arith, get_or-set_same, get_or-set_other, length-set}
use Rattle.std.proofs.lemmas.Bool.{cases_eq}
use Rattle.std.proofs.lemmas.List.{get_or_read_under}
use Rattle.name_index.specs.declared.bucket.Bucket.{Bucket}
use Rattle.name_index.specs.Buckets.{HasEntry, IsBucket, IsNumber, entry_of}
use Rattle.name_index.specs.Index.{Holds, IsIndex, bucket_at, bucket_of, has_lost, home, index_of}
use Rattle.name_index.proofs.Bits.{home_inside}

pub leads_inside : (lead : ℕ) (buckets : List Bucket) (hash : ℕ) → IsIndex (index_of lead buckets) → home lead hash (length buckets) < length buckets
leads_inside lead buckets hash kept = home_inside lead hash (length buckets) kept.bits kept.count

module _ (lead : ℕ) (buckets : List Bucket) (place : ℕ) (bucket : Bucket) (inside : place < length buckets) where
  same_home : (hash : ℕ) → home lead hash (length (set buckets place bucket)) ≡ home lead hash (length buckets)
  same_home hash = ap (home lead hash) (length-set buckets place bucket)

  here : bucket_at (set buckets place bucket) place ≡ bucket
  here = get_or-set_same buckets place bucket (record { lost = true; slots = [] }) inside

  elsewhere : (k : ℕ) → k ≢ place → bucket_at (set buckets place bucket) k ≡ bucket_at buckets k
  elsewhere k other = get_or-set_other buckets place k bucket (record { lost = true; slots = [] }) other

  -- a hash leads to the bucket, or to another one, which is as it was
  leads : (P : Bucket → Bucket → Type 0) → ((b : Bucket) → P b b) → P (bucket_at buckets place) bucket → (hash : ℕ) → P (bucket_of (index_of lead buckets) hash) (bucket_of (index_of lead (set buckets place bucket)) hash)
  leads P itself changed hash =
      let at = home lead hash (length buckets) in
      subst (λ k. P (bucket_at buckets at) (bucket_at (set buckets place bucket) k)) (sym (same_home hash))
      (elim (cases_eq at place) [
        | inl is ↦
            subst (λ k. P (bucket_at buckets k) (bucket_at (set buckets place bucket) k)) (sym is) (subst (P (bucket_at buckets place)) (sym here) changed)
        | inr other ↦ subst (P (bucket_at buckets at)) (sym (elsewhere at other)) (itself (bucket_at buckets at))
      ])

  pub held_still : (hash number : ℕ) → (IsNumber number → HasEntry (bucket_at buckets place) (entry_of hash number) → HasEntry bucket (entry_of hash number))
      → Holds (index_of lead buckets) hash number → Holds (index_of lead (set buckets place bucket)) hash number
  held_still hash number stays held = record {
    is_number = held.is_number;
    entry = leads (λ was is. HasEntry was (entry_of hash number) → HasEntry is (entry_of hash number)) (λ b e. e) (stays held.is_number) hash held.entry;
  }

  pub lost_still : ((bucket_at buckets place).lost ≡ true → bucket.lost ≡ true) → (hash : ℕ) → has_lost (index_of lead buckets) hash ≡ true → has_lost (index_of lead (set buckets place bucket)) hash ≡ true
  unfolding has_lost
  lost_still stays hash = leads (λ was is. was.lost ≡ true → is.lost ≡ true) (λ b e. e) stays hash

  pub index_still : IsBucket bucket → IsIndex (index_of lead buckets) → IsIndex (index_of lead (set buckets place bucket))
  index_still is kept = record {
    bits = kept.bits;
    count = length-set buckets place bucket ∙ kept.count;
    below = kept.below;
    above = kept.above;
    each = λ k l. elim (cases_eq k place) [
      | inl at ↦ subst (λ i. IsBucket (bucket_at (set buckets place bucket) i)) (sym at) (subst IsBucket (sym here) is)
      | inr other ↦ subst IsBucket (sym (elsewhere k other)) (kept.each k (omega (arith, l, length-set buckets place bucket)))
    ];
  }

  led_here : (hash : ℕ) → place ≡ home lead hash (length buckets) → bucket_of (index_of lead (set buckets place bucket)) hash ≡ bucket
  led_here hash at = ap (bucket_at (set buckets place bucket)) (same_home hash ∙ sym at) ∙ here

  pub held_here : (hash number : ℕ) → place ≡ home lead hash (length buckets) → IsNumber number → HasEntry bucket (entry_of hash number) → Holds (index_of lead (set buckets place bucket)) hash number
  held_here hash number at is e = record { is_number = is; entry = subst (λ b. HasEntry b (entry_of hash number)) (sym (led_here hash at)) e }

  pub lost_here : (hash : ℕ) → place ≡ home lead hash (length buckets) → bucket.lost ≡ true → has_lost (index_of lead (set buckets place bucket)) hash ≡ true
  unfolding has_lost
  lost_here hash at lost = ap (λ (b : Bucket). b.lost) (led_here hash at) ∙ lost

-- the bucket that is read where a hash leads to
pub record IsLed (lead : ℕ) (buckets : List Bucket) (hash place : ℕ) (bucket : Bucket) : Type 0 where
  pub at : place ≡ home lead hash (length buckets)
  pub inside : place < length buckets
  pub here : bucket ≡ bucket_at buckets place
  pub of_hash : bucket ≡ bucket_of (index_of lead buckets) hash
  pub kept : IsBucket bucket

pub led : (lead : ℕ) (buckets : List Bucket) (hash len place : ℕ) (bucket : Bucket) → IsIndex (index_of lead buckets) → len ≡ length buckets → place ≡ home lead hash len → bucket ≡ get_or buckets place bucket → IsLed lead buckets hash place bucket
led lead buckets hash len place bucket kept is at read =
    let home_is : place ≡ home lead hash (length buckets) = at ∙ ap (home lead hash) is in
    let inside : place < length buckets = subst (λ k. k < length buckets) (sym home_is) (leads_inside lead buckets hash kept) in
    let here : bucket ≡ bucket_at buckets place = get_or_read_under buckets place (length buckets) bucket (record { lost = true; slots = [] }) read inside refl in
    record {
      at = home_is;
      inside = inside;
      here = here;
      of_hash = here ∙ ap (bucket_at buckets) home_is;
      kept = subst IsBucket (sym here) (kept.each place inside);
    }
