-- Buckets that are doubled, one after another.
use Rattle.std.proofs.Common.{◌≡◌, ◌≢◌, ℕ, ◌+◌, ◌-◌, ◌*◌, ◌<◌, ◌≤◌, true, false, List, [], ◌∷◌, ◌++◌, length, set, inl, inr, refl, sym, ◌∙◌, ap, subst, arith, get_or-set_same, get_or-set_other, length-set, length-append}
use Rattle.std.proofs.lemmas.Bool.{cases_Bool, cases_lt}
use Rattle.std.proofs.lemmas.List.{get_or_append_left, get_or-append-add}
use Rattle.std.proofs.lemmas.Nat.{pow-add}
use Rattle.name_index.specs.declared.bucket.Bucket.{Bucket}
use Rattle.name_index.specs.Buckets.{IsBucket, IsHalf, goes, slot_of}
use Rattle.name_index.specs.Index.{Holds, IsIndex, bucket_at, bucket_of, has_lost, home, index_of}
use Rattle.name_index.proofs.Bits.{entry_goes, home_above, home_below, home_inside}
use Rattle.name_index.proofs.BucketLaws.{fewer}

-- so many buckets at the front are parted
pub record AreParted (lead : ℕ) (old : List Bucket) (count done : ℕ) (now : List Bucket) : Type 0 where
  pub long : length now ≡ count + done
  pub lower : (k : ℕ) → k < done → IsHalf lead count false (bucket_at old k) (bucket_at now k)
  pub upper : (k : ℕ) → k < done → IsHalf lead count true (bucket_at old k) (bucket_at now (count + k))
  pub rest : (k : ℕ) → done ≤ k → k < count → bucket_at now k ≡ bucket_at old k

pub none_parted : (lead : ℕ) (old : List Bucket) (count : ℕ) → length old ≡ count → AreParted lead old count 0 old
none_parted lead old count long = record { long = omega (arith, long); lower = λ k l. absurd (omega (arith, l)); upper = λ k l. absurd (omega (arith, l)); rest = λ k from l. refl }

module _ (lead : ℕ) (old now : List Bucket) (count done : ℕ) (low high : Bucket) (is : AreParted lead old count done now) (inside : done < count)
    (lower : IsHalf lead count false (bucket_at now done) low) (upper : IsHalf lead count true (bucket_at now done) high) where
  abbrev pub next : List Bucket
  next = set now done low ++ high ∷ []

  front : (k : ℕ) → k < count + done → bucket_at next k ≡ bucket_at (set now done low) k
  front k l = get_or_append_left (set now done low) (high ∷ []) (record { lost = true; slots = [] }) k (omega (arith, l, is.long, length-set now done low))

  stays : (k : ℕ) → k < count + done → k ≢ done → bucket_at next k ≡ bucket_at now k
  stays k l other = front k l ∙ get_or-set_other now done k low (record { lost = true; slots = [] }) other

  here : bucket_at next done ≡ low
  here = front done (omega (arith, inside)) ∙ get_or-set_same now done low (record { lost = true; slots = [] }) (omega (arith, is.long, inside))

  last : bucket_at next (count + done) ≡ high
  last =
      let at : length (set now done low) + 0 ≡ count + done = omega (arith, is.long, length-set now done low) in
      ap (bucket_at next) (sym at) ∙ get_or-append-add (set now done low) (high ∷ []) 0 (record { lost = true; slots = [] })

  was : bucket_at now done ≡ bucket_at old done
  was = is.rest done (omega arith) inside

  pub one_parted : AreParted lead old count (done + 1) next
  one_parted = record {
    long = length-append (set now done low) (high ∷ []) ∙ omega (arith, is.long, length-set now done low);
    lower = λ k l. elim (cases_lt k done) [
      | inl before ↦ subst (IsHalf lead count false (bucket_at old k)) (sym (stays k (omega (arith, before)) (λ e. omega (arith, e, before)))) (is.lower k before)
      | inr from ↦
          let at : done ≡ k = omega (arith, from, l) in
          subst (λ i. IsHalf lead count false (bucket_at old i) (bucket_at next i)) at
          (subst (IsHalf lead count false (bucket_at old done)) (sym here) (subst (λ b. IsHalf lead count false b low) was lower))
    ];
    upper = λ k l. elim (cases_lt k done) [
      | inl before ↦ subst (IsHalf lead count true (bucket_at old k)) (sym (stays (count + k) (omega (arith, before)) (λ e. omega (arith, e, inside)))) (is.upper k before)
      | inr from ↦
          let at : done ≡ k = omega (arith, from, l) in
          subst (λ i. IsHalf lead count true (bucket_at old i) (bucket_at next (count + i))) at
          (subst (IsHalf lead count true (bucket_at old done)) (sym last) (subst (λ b. IsHalf lead count true b high) was upper))
    ];
    rest = λ k from l. stays k (omega (arith, l)) (λ e. omega (arith, e, from)) ∙ is.rest k (omega (arith, from)) l;
  }

-- all are parted
module _ (lead : ℕ) (old new : List Bucket) (kept : IsIndex (index_of lead old)) (is : AreParted lead old (length old) (length old) new) where
  count : length new ≡ 2 * length old
  count = is.long ∙ omega arith

  -- what a hash leads to is the half of what it led to
  half : (hash : ℕ) → IsHalf lead (length old) (goes lead (length old) hash) (bucket_of (index_of lead old) hash) (bucket_of (index_of lead new) hash)
  half hash =
      let c = length old in
      let h = home lead hash c in
      let within : h < c = home_inside lead hash c kept.bits kept.count in
      elim (cases_Bool (goes lead c hash)) [
        | inl upper ↦
            let at : c + h ≡ home lead hash (length new) = sym (ap (home lead hash) count ∙ home_above lead hash c kept.bits kept.count upper) in
            subst (λ b. IsHalf lead c b (bucket_of (index_of lead old) hash) (bucket_of (index_of lead new) hash)) (sym upper)
            (subst (λ k. IsHalf lead c true (bucket_at old h) (bucket_at new k)) at (is.upper h within))
        | inr lower ↦
            let at : h ≡ home lead hash (length new) = sym (ap (home lead hash) count ∙ home_below lead hash c kept.bits kept.count lower) in
            subst (λ b. IsHalf lead c b (bucket_of (index_of lead old) hash) (bucket_of (index_of lead new) hash)) (sym lower)
            (subst (λ k. IsHalf lead c false (bucket_at old h) (bucket_at new k)) at (is.lower h within))
      ]

  pub still_held : (hash number : ℕ) → Holds (index_of lead old) hash number → Holds (index_of lead new) hash number
  still_held hash number held =
      let e = held.entry in
      let at : goes lead (length old) (slot_of (bucket_of (index_of lead old) hash) e.place) ≡ goes lead (length old) hash =
      ap (goes lead (length old)) e.there ∙ entry_goes lead hash number (length old) kept.bits held.is_number kept.count kept.above in
      record { is_number = held.is_number; entry = record { place = e.place; inside = e.inside; there = (half hash).kept e.place e.inside at ∙ e.there } }

  pub still_lost : (hash : ℕ) → has_lost (index_of lead old) hash ≡ true → has_lost (index_of lead new) hash ≡ true
  unfolding has_lost
  still_lost hash lost = (half hash).lost ∙ lost

  pub still_index : IsIndex (index_of lead new)
  still_index = record {
    bits = kept.bits + 1;
    count = count ∙ (ap (λ c. 2 * c) kept.count ∙ omega (arith, pow-add 2 kept.bits 1));
    below = kept.below;
    above = omega (arith, kept.above);
    each = λ k l. elim (cases_lt k (length old)) [
      | inl low ↦ fewer (bucket_at old k) (bucket_at new k) (is.lower k low).freed (kept.each k low)
      | inr high ↦
          let at : length old + (k - length old) ≡ k = omega (arith, high) in
          let inside : k - length old < length old = omega (arith, high, l, count) in
          subst (λ i. IsBucket (bucket_at new i)) at (fewer (bucket_at old (k - length old)) (bucket_at new (length old + (k - length old))) (is.upper (k - length old) inside).freed (kept.each (k - length old) inside))
    ];
  }

-- when the loop has ended
pub all_parted : (lead : ℕ) (old now : List Bucket) (count done : ℕ) → count ≡ length old → done ≤ count → count ≤ done → AreParted lead old count done now → AreParted lead old (length old) (length old) now
all_parted lead old now count done is most least parted =
    let one : done ≡ length old = omega (arith, is, most, least) in
    subst (λ n. AreParted lead old n (length old) now) is (subst (λ n. AreParted lead old count n now) one parted)
