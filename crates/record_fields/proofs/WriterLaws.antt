-- What is written one after the other.
use Rattle.std.proofs.Common.{◌≡◌, ℕ, suc, ◌+◌, ◌-◌, ◌≤◌, ◌<◌, List, [], ◌∷◌, ◌++◌, length, get_or, take, drop, refl, sym, ap, subst, ◌∙◌, append_assoc, arith, inl, inr}
use Rattle.std.specs.List.{flat_map}
use Rattle.std.proofs.lemmas.Bool.{cases_lt}
use Rattle.std.proofs.Math.Seq.{drop-append-add}
use Rattle.std.proofs.lemmas.List.Concat.{flat_map-append}
use Rattle.std.proofs.lemmas.List.{take_more, drop-drop, drop_at, append-nil, take_all, take_at, take-append-le, length-append, length-take, length-drop}
use Rattle.std.specs.Prelude.{min, Some, None}
use borrow.Rule.Slice.PartMut.{put_mid, post_of, same_len_mid}
use Rattle.byteorder.specs.Endian.{little_bytes}
use Rattle.byteorder.proofs.Bytes.{take-bytes_low_first}
use Rattle.record_fields.specs.Formats.{number_spelled, text_spelled, optional_spelled, listed_spelled}
use Rattle.record_fields.specs.Writers.{Writes}

-- ---- general laws of lists; they belong to fsrm_base
-- what has no room is lost once
take_twice : (n : ℕ) (a b : List ℕ) → take n (take n a ++ b) ≡ take n (a ++ b)
take_twice n a b =
    elim (cases_lt (length a) n) [
      | inl lt ↦ ap (λ (x : List ℕ). take n (x ++ b)) (take_all n a (omega arith))
      | inr le ↦
          let size : length (take n a) ≡ n = omega (arith, length-take n a) in
          take-append-le n (take n a) b (omega arith) ∙ take_all n (take n a) (omega arith) ∙ sym (take-append-le n a b le)
    ]

-- what stands after one place stands after each later one
drop_further : (b c : ℕ) (m o : List ℕ) → b ≤ c → drop b m ≡ drop b o → drop c m ≡ drop c o
drop_further b c m o later same =
    let place : b + (c - b) ≡ c = omega arith in
    ap (λ (k : ℕ). drop k m) (sym place) ∙ sym (drop-drop (c - b) b m) ∙ ap (drop (c - b)) same ∙ drop-drop (c - b) b o ∙ ap (λ (k : ℕ). drop k o) place

take_beyond : (f b : List ℕ) (n : ℕ) → take (length f + n) (f ++ b) ≡ f ++ take n b
take_beyond [] b n = let e : 0 + n ≡ n = omega arith in rw e refl
take_beyond (x ∷ f) b n = let e : length (x ∷ f) + n ≡ suc (length f + n) = omega arith in rw e (ap (λ (r : List ℕ). x ∷ r) (take_beyond f b n))

-- ---- writes
pub writes_then : {o m n : List ℕ} {a b c : ℕ} {x y : List ℕ} → Writes o a m b x → Writes m b n c y → Writes o a n c (x ++ y)
writes_then {o = o} {m = m} {n = n} {a = a} {b = b} {c = c} {x = x} {y = y} p q = record {
  room = q.room ∙ p.room;
  within = q.within;
  onward = omega (arith, p.onward, q.onward);
  beyond = q.beyond ∙ drop_further b c m o q.onward p.beyond;
  text = q.text ∙ ap (λ (k : ℕ). take k (take b m ++ y)) p.room ∙ ap (λ (f : List ℕ). take (length o) (f ++ y)) p.text
      ∙ take_twice (length o) (take a o ++ x) y ∙ ap (take (length o)) (append_assoc (take a o) x y);
}

pub writes_nothing : {o : List ℕ} {a : ℕ} → a ≤ length o → Writes o a o a []
writes_nothing {o = o} {a = a} h = record { room = refl; within = h; onward = omega arith; beyond = refl; text = sym (ap (take (length o)) (append-nil (take a o)) ∙ take_all (length o) (take a o) (omega (arith, length-take a o))) }

-- bytes that are put at a place, as many as have room
pub put_writes : (xs ys bytes : List ℕ) (a count : ℕ) → a ≤ length xs → count ≡ min (length bytes) (length xs - a) → ys ≡ take count bytes → Writes xs a (put_mid a (a + count - a) xs ys) (a + count) bytes
put_writes xs ys bytes a count place is given =
    let k : a + count - a ≡ count = omega arith in
    let size : length ys ≡ count = omega (arith, ap length given, length-take count bytes) in
    let front : length (take a xs) ≡ a = omega (arith, length-take a xs) in
    let post = post_of a count xs in
    let room' : length (put_mid a count xs ys) ≡ length xs = same_len_mid a count xs ys (omega (arith, size, length-take count (drop a xs), length-drop a xs)) in
    let left' : take (a + count) (take a xs ++ (ys ++ post)) ≡ take a xs ++ ys =
    ap (λ (n : ℕ). take (n + count) (take a xs ++ (ys ++ post))) (sym front) ∙ take_beyond (take a xs) (ys ++ post) count ∙ ap (λ (t : List ℕ). take a xs ++ t) (take_at ys post count size) in
    let right' : take (length xs) (take a xs ++ bytes) ≡ take a xs ++ take (length xs - a) bytes =
    ap (λ (n : ℕ). take n (take a xs ++ bytes)) (omega (arith, front)) ∙ take_beyond (take a xs) bytes (length xs - a) in
    let same : take (length xs - a) bytes ≡ take count bytes = elim (cases_lt (length bytes) (length xs - a)) [
      | inl lt ↦ take_all (length xs - a) bytes (omega arith) ∙ sym (take_all count bytes (omega arith))
      | inr le ↦ ap (λ (n : ℕ). take n bytes) (omega arith)
    ] in
    let beyond' : drop (a + count) (put_mid a count xs ys) ≡ drop (a + count) xs =
    ap (λ (n : ℕ). drop (n + count) (take a xs ++ (ys ++ post))) (sym front) ∙ drop-append-add (take a xs) (ys ++ post) count ∙ drop_at ys post count size ∙ drop-drop count a xs in
    rw k record {
      room = room';
      within = omega (arith, room');
      onward = omega arith;
      beyond = beyond';
      text = left' ∙ ap (λ (t : List ℕ). take a xs ++ t) (given ∙ sym same) ∙ sym right';
    }

-- the low bytes of a number
pub writes_number : {o m : List ℕ} {a b : ℕ} (width n : ℕ) (bytes : List ℕ) → width ≤ 8 → bytes ≡ little_bytes 8 n → Writes o a m b (take width bytes) → Writes o a m b (number_spelled width n)
unfolding number_spelled
writes_number {o = o} {m = m} {a = a} {b = b} width n bytes le is w =
    subst (Writes o a m b) (ap (take width) is ∙ take-bytes_low_first 0 8 width n le) w

pub writes_text : {o m n : List ℕ} {a b c : ℕ} (text bytes : List ℕ) → bytes ≡ text → Writes o a m b (number_spelled 2 (length text)) → Writes m b n c bytes → Writes o a n c (text_spelled text)
unfolding text_spelled
writes_text {m = m} {n = n} {b = b} {c = c} text bytes same p q = writes_then p (subst (Writes m b n c) same q)

pub writes_no_value : {X : Type 0} {o m : List ℕ} {a b : ℕ} (spell : X → List ℕ) → Writes o a m b (number_spelled 1 0) → Writes o a m b (optional_spelled spell None)
unfolding optional_spelled
writes_no_value spell w = w

pub writes_value : {X : Type 0} {o m n : List ℕ} {a b c : ℕ} (spell : X → List ℕ) (x : X) → Writes o a m b (number_spelled 1 1) → Writes m b n c (spell x) → Writes o a n c (optional_spelled spell (Some x))
unfolding optional_spelled
writes_value spell x p q = writes_then p q

pub writes_list : {X : Type 0} {o m n : List ℕ} {a b c : ℕ} (width : ℕ) (spell : X → List ℕ) (xs ys : List X) (count : ℕ) → count ≡ length xs → ys ≡ xs → Writes o a m b (number_spelled width count) → Writes m b n c (flat_map spell ys) → Writes o a n c (listed_spelled (number_spelled width) spell xs)
unfolding listed_spelled
writes_list {o = o} {m = m} {n = n} {a = a} {b = b} {c = c} width spell xs ys count size same p q =
    writes_then (subst (λ (k : ℕ). Writes o a m b (number_spelled width k)) size p) (subst (λ zs. Writes m b n c (flat_map spell zs)) same q)

-- one more value of a list
pub writes_more : {X : Type 0} {o m n : List ℕ} {a b c : ℕ} (spell : X → List ℕ) (xs : List X) (i : ℕ) (x : X) → i < length xs → x ≡ get_or xs i x
    → Writes o a m b (flat_map spell (take i xs)) → Writes m b n c (spell x) → Writes o a n c (flat_map spell (take (i + 1) xs))
writes_more {o = o} {n = n} {a = a} {c = c} spell xs i x inside is p q =
    let parts : flat_map spell (take (i + 1) xs) ≡ flat_map spell (take i xs) ++ spell x =
    ap (flat_map spell) (take_more xs i x inside ∙ ap (λ y. take i xs ++ y ∷ []) (sym is)) ∙ flat_map-append spell (take i xs) (x ∷ [])
    ∙ ap (λ (b : List ℕ). flat_map spell (take i xs) ++ b) (append-nil (spell x)) in
    subst (Writes o a n c) (sym parts) (writes_then p q)

-- what has room is written whole
pub whole : (old new bytes : List ℕ) (at end : ℕ) → Writes old at new end bytes → at + length bytes ≤ length old → (end ≡ at + length bytes) × (take end new ≡ take at old ++ bytes)
whole old new bytes at end w room =
    let text : take end new ≡ take at old ++ bytes = w.text ∙ take_all (length old) (take at old ++ bytes) (omega (arith, room, length-append (take at old) bytes, length-take at old)) in
    (omega (arith, room, w.within, ap length text, length-take end new, length-append (take at old) bytes, length-take at old), text)
