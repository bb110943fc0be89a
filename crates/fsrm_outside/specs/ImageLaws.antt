-- Each image of the disk model is one that the calls may have left, torn write by torn write.
use Rattle.std.proofs.Common.{◌≡◌, true, false, ◌++◌, length-append, rules, ◌⊎◌, inl, inr, ⊎_elim, ℕ, zero, suc, ◌+◌, ◌-◌, ◌≤◌, ◌<◌, min, max, List, [], ◌∷◌, length, get_or, take, drop, refl, sym, ◌∙◌, ap, arith, length-take, length-drop}
use Rattle.std.proofs.lemmas.Bool.{cases_lt}
use Rattle.std.proofs.lemmas.List.{take-take, take_all, drop_all, get_or-take}
use Rattle.std.specs.Prelude.{Bool, ◌&&◌, nat_le, Vec}
use Rattle.std.specs.declared.alloc.Global.{Global}
use Rattle.std.proofs.lemmas.Bool.{leb-true}
use Rattle.std.proofs.lemmas.List.{same_lists, get_or_default, places, get_or-append_right, get_or-drop}
use Rattle.fsrm_outside.specs.Parts.{Parts, part_of, other}
use Rattle.fsrm_outside.specs.Changes.{Torn, over}
use Rattle.fsrm_outside.specs.declared.traits.Part.{Part}
use Rattle.fsrm_outside.specs.declared.traits.Part.TheVariants.{Zero, One}
use Rattle.fsrm_outside.specs.declared.calls.Call.{Call}
use Rattle.fsrm_outside.specs.declared.calls.Call.TheVariants.{Read, Write, Len, ReadAt, WriteAt, FailedAt, Sync}
use Rattle.fsrm_outside.specs.Record.{now_of, valid}
use Rattle.fsrm_outside.specs.DiskModel.{Since, IsOutside, IsPartImage, IsImage, since_of, wrote, settled}

-- the image with the stable bytes put back in the range, where there are any
mix : (b i : List ℕ) (p n : ℕ) → List ℕ
mix b [] p n = []
mix b (x ∷ i) zero zero = x ∷ i
mix [] (x ∷ i) zero (suc n) = x ∷ i
mix (y ∷ b) (x ∷ i) zero (suc n) = y ∷ mix b i zero n
mix [] (x ∷ i) (suc p) n = x ∷ i
mix (y ∷ b) (x ∷ i) (suc p) n = x ∷ mix b i p n

length-mix : (b i : List ℕ) (p n : ℕ) → length (mix b i p n) ≡ length i
unfolding mix
length-mix b [] p n = refl
length-mix b (x ∷ i) zero zero = refl
length-mix [] (x ∷ i) zero (suc n) = refl
length-mix (y ∷ b) (x ∷ i) zero (suc n) = ap suc (length-mix b i zero n)
length-mix [] (x ∷ i) (suc p) n = refl
length-mix (y ∷ b) (x ∷ i) (suc p) n = ap suc (length-mix b i p n)

take-mix : (b i : List ℕ) (p n : ℕ) → take p (mix b i p n) ≡ take p i
unfolding mix
take-mix b [] p n = refl
take-mix b (x ∷ i) zero zero = refl
take-mix [] (x ∷ i) zero (suc n) = refl
take-mix (y ∷ b) (x ∷ i) zero (suc n) = refl
take-mix [] (x ∷ i) (suc p) n = refl
take-mix (y ∷ b) (x ∷ i) (suc p) n = ap (λ (l : List ℕ). x ∷ l) (take-mix b i p n)

drop-mix : (b i : List ℕ) (p n q : ℕ) → q ≡ p + n → drop q (mix b i p n) ≡ drop q i
unfolding mix
drop-mix b [] p n q is = refl
drop-mix b (x ∷ i) zero zero q is = refl
drop-mix [] (x ∷ i) zero (suc n) q is = refl
drop-mix (y ∷ b) (x ∷ i) zero (suc n) zero is = absurd (omega arith)
drop-mix (y ∷ b) (x ∷ i) zero (suc n) (suc q) is = drop-mix b i zero n q (omega arith)
drop-mix [] (x ∷ i) (suc p) n q is = refl
drop-mix (y ∷ b) (x ∷ i) (suc p) n zero is = absurd (omega arith)
drop-mix (y ∷ b) (x ∷ i) (suc p) n (suc q) is = drop-mix b i p n q (omega arith)

in-mix : (b i : List ℕ) (p n k : ℕ) → k < length b → k < length i → p ≤ k → k < p + n → get_or (mix b i p n) k 0 ≡ get_or b k 0
unfolding mix
in-mix b [] p n k b_long i_long from to = absurd (omega arith)
in-mix b (x ∷ i) zero zero k b_long i_long from to = absurd (omega arith)
in-mix [] (x ∷ i) zero (suc n) k b_long i_long from to = absurd (omega arith)
in-mix (y ∷ b) (x ∷ i) zero (suc n) zero b_long i_long from to = refl
in-mix (y ∷ b) (x ∷ i) zero (suc n) (suc k) b_long i_long from to = in-mix b i zero n k (omega arith) (omega arith) (omega arith) (omega arith)
in-mix [] (x ∷ i) (suc p) n k b_long i_long from to = absurd (omega arith)
in-mix (y ∷ b) (x ∷ i) (suc p) n zero b_long i_long from to = absurd (omega arith)
in-mix (y ∷ b) (x ∷ i) (suc p) n (suc k) b_long i_long from to = in-mix b i p n k (omega arith) (omega arith) (omega arith) (omega arith)

out-mix : (b i : List ℕ) (p n k : ℕ) → (k < p) ⊎ (p + n ≤ k) → get_or (mix b i p n) k 0 ≡ get_or i k 0
unfolding mix
out-mix b [] p n k out = refl
out-mix b (x ∷ i) zero zero k out = refl
out-mix [] (x ∷ i) zero (suc n) k out = refl
out-mix (y ∷ b) (x ∷ i) zero (suc n) zero out = absurd (⊎_elim (λ before. omega (arith, before)) (λ behind. omega (arith, behind)) out)
out-mix (y ∷ b) (x ∷ i) zero (suc n) (suc k) out = out-mix b i zero n k (⊎_elim (λ before. absurd (omega (arith, before))) (λ behind. inr (omega (arith, behind))) out)
out-mix [] (x ∷ i) (suc p) n k out = refl
out-mix (y ∷ b) (x ∷ i) (suc p) n zero out = refl
out-mix (y ∷ b) (x ∷ i) (suc p) n (suc k) out = out-mix b i p n k (⊎_elim (λ before. inl (omega (arith, before))) (λ behind. inr (omega (arith, behind))) out)

-- one part: an image after a write comes by a torn write from an image before it
pub record Before (since : Since) (place n : ℕ) (image : List ℕ) : Type 0 where
  pub d : List ℕ
  pub is : IsPartImage since d
  pub before : take place image ≡ take place d
  pub after : drop (place + n) image ≡ drop (place + n) d
  pub no_shorter : length d ≤ length image
  pub no_longer : length image ≤ max (length d) (place + n)

module _ (since : Since) (place n : ℕ) (image : List ℕ) (within : place ≤ since.greatest) (enough : length since.stable ≤ since.greatest) (is : IsPartImage (wrote since place n) image) where
  abbrev mixed : List ℕ
  mixed = mix since.stable image place n

  abbrev back : List ℕ
  back = take since.greatest mixed

  size : length back ≡ min since.greatest (length image)
  size = length-take since.greatest mixed ∙ ap (min since.greatest) (length-mix since.stable image place n)

  kept : (k : ℕ) → k < length since.stable → IsOutside since.written k → get_or back k 0 ≡ get_or since.stable k 0
  kept k few out = get_or-take since.greatest mixed k 0 (omega arith) ∙ ⊎_elim
      (λ front. out-mix since.stable image place n k (inl front) ∙ is.same k few (inl front, out))
      (λ from. ⊎_elim
      (λ inside. in-mix since.stable image place n k few (omega (arith, is.no_shorter)) from inside)
      (λ behind. out-mix since.stable image place n k (inr behind) ∙ is.same k few (inr behind, out))
      (cases_lt k (place + n)))
      (cases_lt k place)

  front : take place image ≡ take place back
  front = sym (take-take place since.greatest mixed within ∙ take-mix since.stable image place n)

  tail : drop (place + n) image ≡ drop (place + n) back
  tail = ⊎_elim
      (λ longer. drop_all (place + n) image (omega (arith, is.no_longer, longer)) ∙ sym (drop_all (place + n) back (omega (arith, is.no_longer, longer, size))))
      (λ fits. sym (ap (drop (place + n)) (take_all since.greatest mixed (omega (arith, fits, length-mix since.stable image place n))) ∙ drop-mix since.stable image place n (place + n) refl))
      (cases_lt since.greatest (length image))

  pub torn_back : Before since place n image
  torn_back = record {
    d = back;
    is = record { no_shorter = omega (arith, size, is.no_shorter, enough); no_longer = omega (arith, size); same = kept };
    before = front;
    after = tail;
    no_shorter = omega (arith, size);
    no_longer = omega (arith, size, is.no_longer);
  }

-- over a whole record of calls
one_part : (bytes image : List ℕ) → IsPartImage (settled bytes) image → image ≡ bytes
one_part bytes image is = same_lists image bytes (omega (arith, is.no_shorter, is.no_longer)) (λ k d few.
    let inside : k < length bytes = omega (arith, is.no_longer) in
    get_or_default image k d 0 few ∙ is.same k inside tt ∙ get_or_default bytes k 0 d inside)

pub two_parts : (p i : Parts) → IsPartImage (settled p.zero) i.zero → IsPartImage (settled p.one) i.one → i ≡ p
two_parts p i z o = λ k. record { zero = one_part p.zero i.zero z k; one = one_part p.one i.one o k }

-- what is there is no longer than the greatest length, and what is stable no longer either
pub record Bounds (start : Parts) (calls : List Call) (part : Part) : Type 0 where
  pub stable : length (since_of start calls part).stable ≤ (since_of start calls part).greatest
  pub now : length (part_of part (now_of start calls)) ≤ (since_of start calls part).greatest

pub both_true : (a b : Bool) → (a && b) ≡ true → (a ≡ true) × (b ≡ true)
both_true true b is = (refl, is)
both_true false b is = absurd (cc)

over_long : (place : ℕ) (bytes old : List ℕ) → length (over place bytes old) ≤ max (length old) (place + length bytes)
over_long place bytes old = omega (arith, length-append (take place old ++ bytes) (drop (place + length bytes) old), length-append (take place old) bytes, length-drop (place + length bytes) old, length-take place old)

pub bounds : (start : Parts) (calls : List Call) (part : Part) → Bounds start calls part
bounds start [] part = record { stable = omega arith; now = omega arith }
bounds start (Sync true ∷ calls) part = record { stable = omega arith; now = omega arith }
bounds start (Sync false ∷ calls) part = let b = bounds start calls part in record { stable = b.stable; now = b.now }
bounds start (Read ∷ calls) part = let b = bounds start calls part in record { stable = b.stable; now = b.now }
bounds start (Write bytes ∷ calls) part = let b = bounds start calls part in record { stable = b.stable; now = b.now }
bounds start (Len ∷ calls) part = let b = bounds start calls part in record { stable = b.stable; now = b.now }
bounds start (ReadAt ∷ calls) part = let b = bounds start calls part in record { stable = b.stable; now = b.now }
bounds start (WriteAt Zero place bytes ∷ calls) Zero = let b = bounds start calls Zero in record { stable = omega (arith, b.stable); now = omega (arith, b.now, over_long place bytes.items (now_of start calls).zero) }
bounds start (FailedAt Zero place count ∷ calls) Zero = let b = bounds start calls Zero in record { stable = omega (arith, b.stable); now = omega (arith, b.now) }
bounds start (WriteAt Zero place bytes ∷ calls) One = let b = bounds start calls One in record { stable = b.stable; now = b.now }
bounds start (FailedAt Zero place count ∷ calls) One = let b = bounds start calls One in record { stable = b.stable; now = b.now }
bounds start (WriteAt One place bytes ∷ calls) One = let b = bounds start calls One in record { stable = omega (arith, b.stable); now = omega (arith, b.now, over_long place bytes.items (now_of start calls).one) }
bounds start (FailedAt One place count ∷ calls) One = let b = bounds start calls One in record { stable = omega (arith, b.stable); now = omega (arith, b.now) }
bounds start (WriteAt One place bytes ∷ calls) Zero = let b = bounds start calls Zero in record { stable = b.stable; now = b.now }
bounds start (FailedAt One place count ∷ calls) Zero = let b = bounds start calls Zero in record { stable = b.stable; now = b.now }

-- an image after a write of a part comes by a torn write from an image before it
image_torn : (start : Parts) (calls : List Call) (part : Part) (place n : ℕ) (image : Parts) → place ≤ length (part_of part (now_of start calls))
    → IsPartImage (wrote (since_of start calls part) place n) (part_of part image) → IsPartImage (since_of start calls (other part)) (part_of (other part) image)
    → (d : Parts) × IsImage start calls d × Torn part place n d image
image_torn start calls Zero place n image within is rest =
    let b = bounds start calls Zero in
    let t = torn_back (since_of start calls Zero) place n image.zero (omega (arith, within, b.now)) b.stable is in
    let d : Parts = record { zero = t.d; one = image.one } in
    (d, (t.is, rest), record { other_part = refl; before = t.before; after = t.after; no_shorter = t.no_shorter; no_longer = t.no_longer })
image_torn start calls One place n image within is rest =
    let b = bounds start calls One in
    let t = torn_back (since_of start calls One) place n image.one (omega (arith, within, b.now)) b.stable is in
    let d : Parts = record { zero = image.zero; one = t.d } in
    (d, (rest, t.is), record { other_part = refl; before = t.before; after = t.after; no_shorter = t.no_shorter; no_longer = t.no_longer })

pub image_back : (start : Parts) (calls : List Call) (part : Part) (place : ℕ) (bytes : Vec ℕ Global) (image : Parts) → place ≤ length (part_of part (now_of start calls))
    → IsImage start (WriteAt part place bytes ∷ calls) image → (d : Parts) × IsImage start calls d × Torn part place (length bytes.items) d image
image_back start calls Zero place bytes image within is = image_torn start calls Zero place (length bytes.items) image within is.0 is.1
image_back start calls One place bytes image within is = image_torn start calls One place (length bytes.items) image within is.1 is.0

pub failed_back : (start : Parts) (calls : List Call) (part : Part) (place count : ℕ) (image : Parts) → place ≤ length (part_of part (now_of start calls))
    → IsImage start (FailedAt part place count ∷ calls) image → (d : Parts) × IsImage start calls d × Torn part place count d image
failed_back start calls Zero place count image within is = image_torn start calls Zero place count image within is.0 is.1
failed_back start calls One place count image within is = image_torn start calls One place count image within is.1 is.0

-- a byte outside what was written
get_or-over : (place : ℕ) (bytes old : List ℕ) (k : ℕ) → place ≤ length old → (k < place) ⊎ (place + length bytes ≤ k) → get_or (over place bytes old) k 0 ≡ get_or old k 0
get_or-over place bytes old k within out = ⊎_elim (λ front. search (rules, places, front)) (λ behind.
    let front : length (take place old ++ bytes) ≡ place + length bytes = omega (arith, length-append (take place old) bytes, length-take place old) in
    let back : place + length bytes + (k - (place + length bytes)) ≡ k = omega (arith, behind) in
    get_or-append_right (take place old ++ bytes) (drop (place + length bytes) old) (place + length bytes) k 0 front behind
    ∙ get_or-drop (place + length bytes) old (k - (place + length bytes)) 0 ∙ ap (λ (j : ℕ). get_or old j 0) back) out

pub over_longer : (place : ℕ) (bytes old : List ℕ) → place ≤ length old → length old ≤ length (over place bytes old)
over_longer place bytes old within = omega (arith, length-append (take place old ++ bytes) (drop (place + length bytes) old), length-append (take place old) bytes, length-drop (place + length bytes) old, length-take place old)

after_write : (since : Since) (place : ℕ) (bytes old : List ℕ) → place ≤ length old → IsPartImage since old → IsPartImage (wrote since place (length bytes)) (over place bytes old)
after_write since place bytes old within is = record {
  no_shorter = omega (arith, is.no_shorter, over_longer place bytes old within);
  no_longer = omega (arith, is.no_longer, over_long place bytes old);
  same = λ k few out. get_or-over place bytes old k within out.0 ∙ is.same k few out.1;
}

after_failure : (since : Since) (place n : ℕ) (old : List ℕ) → IsPartImage since old → IsPartImage (wrote since place n) old
after_failure since place n old is = record { no_shorter = is.no_shorter; no_longer = omega (arith, is.no_longer); same = λ k few out. is.same k few out.1 }

itself : (bytes : List ℕ) → IsPartImage (settled bytes) bytes
itself bytes = record { no_shorter = omega arith; no_longer = omega arith; same = λ k few out. refl }

-- what a read gives is an image of the disk model
pub now_image : (start : Parts) (calls : List Call) → valid start calls ≡ true → IsImage start calls (now_of start calls)
now_image start [] v = (itself start.zero, itself start.one)
now_image start (Sync true ∷ calls) v = (itself (now_of start calls).zero, itself (now_of start calls).one)
now_image start (Sync false ∷ calls) v = now_image start calls v
now_image start (Read ∷ calls) v = now_image start calls v
now_image start (Write bytes ∷ calls) v = now_image start calls v
now_image start (Len ∷ calls) v = now_image start calls v
now_image start (ReadAt ∷ calls) v = now_image start calls v
now_image start (WriteAt Zero place bytes ∷ calls) v =
    let both = both_true (nat_le place (length (now_of start calls).zero)) (valid start calls) v in
    let r = now_image start calls both.1 in
    (after_write (since_of start calls Zero) place bytes.items (now_of start calls).zero (leb-true place (length (now_of start calls).zero) both.0) r.0, r.1)
now_image start (WriteAt One place bytes ∷ calls) v =
    let both = both_true (nat_le place (length (now_of start calls).one)) (valid start calls) v in
    let r = now_image start calls both.1 in
    (r.0, after_write (since_of start calls One) place bytes.items (now_of start calls).one (leb-true place (length (now_of start calls).one) both.0) r.1)
now_image start (FailedAt Zero place count ∷ calls) v =
    let both = both_true (nat_le place (length (now_of start calls).zero)) (valid start calls) v in
    let r = now_image start calls both.1 in
    (after_failure (since_of start calls Zero) place (count) (now_of start calls).zero r.0, r.1)
now_image start (FailedAt One place count ∷ calls) v =
    let both = both_true (nat_le place (length (now_of start calls).one)) (valid start calls) v in
    let r = now_image start calls both.1 in
    (r.0, after_failure (since_of start calls One) place count (now_of start calls).one r.1)
