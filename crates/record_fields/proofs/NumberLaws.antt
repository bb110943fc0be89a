-- Numbers in so many bytes.
use Rattle.std.proofs.Common.{◌≡◌, ℕ, ◌+◌, ◌^◌, ◌<◌, ◌≤◌, ◌%◌, Bool, true, false, cond, ltb, List, [], ◌∷◌, ◌++◌, length, get_or, take, drop, Ok, Err, refl, sym, ap, subst, ◌∙◌, arith, inl, inr}
use Rattle.std.proofs.lemmas.Bool.{cases_lt, ltb-false, ltb-true, lt-ltb, le-ltb}
use Rattle.std.proofs.lemmas.List.{drop_at, take-append-drop, length-append, length-take, get_or-take, get_or_past}
use Rattle.std.proofs.lemmas.Nat.{le_bytes_2, le_bytes_4, le_bytes_8}
use Rattle.std.proofs.Math.Nat.{one-le-pow}
use Rattle.byteorder.specs.Endian.{little_number, little_bytes}
use Rattle.byteorder.specs.Numbers.{little_number-reads_back, little_from-lt, length-bytes_low_first}
use Rattle.record_fields.specs.declared.flaw.Flaw.{Flaw}
use Rattle.record_fields.specs.declared.flaw.Flaw.TheVariants.{Truncated, Illegal}
use Rattle.record_fields.specs.Formats.{number, number_at, number_spelled, number_legal}
use Rattle.record_fields.specs.Laws.{Exact, AreBytes, IsField, Places, left_of}
use Rattle.record_fields.proofs.Reaching.{field_places}

guard_ok : {X : Type 0} (b : Bool) (d : Flaw) (x y : X × List ℕ) → cond b (Err d) (Ok x) ≡ Ok y → (b ≡ false) × (x ≡ y)
guard_ok true d x y e = absurd cc
guard_ok false d x y e = (refl, cc)

guard_err : {X : Type 0} (b : Bool) (c d : Flaw) (x : X × List ℕ) → cond b (Err c) (Ok x) ≡ Err d → c ≡ d
guard_err true c d x e = cc
guard_err false c d x e = absurd cc

-- the bytes of a number that was read are those that it was read from
pub record IsWidth (width : ℕ) : Type 0 where
  pub back : (bytes : List ℕ) → width ≤ length bytes → AreBytes bytes → little_bytes width (little_number width bytes) ≡ take width bytes

bytes_take : (n : ℕ) (bytes : List ℕ) → n ≤ length bytes → AreBytes bytes → AreBytes (take n bytes)
bytes_take n bytes long h i =
    elim (cases_lt i n) [
      | inl lt ↦ rw (get_or-take n bytes i 0 lt) (h i)
      | inr le ↦ rw (get_or_past (take n bytes) i 0 (omega (arith, length-take n bytes))) (omega arith)
    ]

pub width_1 : IsWidth 1
width_1 = record { back = one }
  where
    one : (bytes : List ℕ) → 1 ≤ length bytes → AreBytes bytes → little_bytes 1 (little_number 1 bytes) ≡ take 1 bytes
    one [] long h = absurd (omega arith)
    one (b ∷ bs) long h = let fits : b < 256 = h 0 in let same : (b + 0) % 256 ≡ b = omega arith in rw same refl

same_at : (n : ℕ) (bytes : List ℕ) (i : ℕ) → i < n → get_or (take n bytes) i 0 ≡ get_or bytes i 0
same_at n bytes i lt = get_or-take n bytes i 0 lt

pub width_2 : IsWidth 2
width_2 = record { back = λ bytes long h. le_bytes_2 (take 2 bytes) (little_number 2 bytes) (omega (arith, length-take 2 bytes)) (bytes_take 2 bytes long h) (omega (arith, same_at 2 bytes 0 (omega arith), same_at 2 bytes 1 (omega arith))) }

pub width_4 : IsWidth 4
width_4 = record {
  back = λ bytes long h. le_bytes_4 (take 4 bytes) (little_number 4 bytes) (omega (arith, length-take 4 bytes)) (bytes_take 4 bytes long h)
      (omega (arith, same_at 4 bytes 0 (omega arith), same_at 4 bytes 1 (omega arith), same_at 4 bytes 2 (omega arith), same_at 4 bytes 3 (omega arith)));
}

pub width_8 : IsWidth 8
width_8 = record {
  back = λ bytes long h. le_bytes_8 (take 8 bytes) (little_number 8 bytes) (omega (arith, length-take 8 bytes)) (bytes_take 8 bytes long h)
      (omega (arith, same_at 8 bytes 0 (omega arith), same_at 8 bytes 1 (omega arith), same_at 8 bytes 2 (omega arith), same_at 8 bytes 3 (omega arith), same_at 8 bytes 4 (omega arith), same_at 8 bytes 5 (omega arith), same_at 8 bytes 6 (omega arith), same_at 8 bytes 7 (omega arith)));
}

number_again : (width n : ℕ) (rest : List ℕ) → number_legal width n ≡ true → number_at width (number_spelled width n ++ rest) ≡ Ok (n, rest)
unfolding number_at number_spelled
number_again width n rest legal =
    let size : length (number_spelled width n) ≡ width = length-bytes_low_first 0 width n in
    let long : ltb (length (number_spelled width n ++ rest)) width ≡ false = le-ltb _ _ (omega (arith, length-append (number_spelled width n) rest, size)) in
    rw (long, little_number-reads_back width n rest (ltb-true _ _ legal), drop_at (number_spelled width n) rest width size) refl

number_takes : (width : ℕ) → IsWidth width → (bytes : List ℕ) (n : ℕ) (rest : List ℕ) → AreBytes bytes → number_at width bytes ≡ Ok (n, rest) → (number_legal width n ≡ true) × (bytes ≡ number_spelled width n ++ rest)
unfolding number_at number_spelled
number_takes width w bytes n rest h e =
    let g = guard_ok (ltb (length bytes) width) (Truncated (length bytes)) (little_number width bytes, drop width bytes) (n, rest) e in
    let long : width ≤ length bytes = ltb-false _ _ g.0 in
    let fits : ltb (little_number width bytes) (256 ^ width) ≡ true = lt-ltb _ _ (little_from-lt 0 width bytes h) in
    let parts : bytes ≡ number_spelled width (little_number width bytes) ++ drop width bytes = sym (take-append-drop width bytes) ∙ ap (λ (t : List ℕ). t ++ drop width bytes) (sym (w.back bytes long h)) in
    subst (λ (x : ℕ × List ℕ). (number_legal width x.0 ≡ true) × (bytes ≡ number_spelled width x.0 ++ x.1)) g.1 (fits, parts)

number_wrong : (width : ℕ) (bytes : List ℕ) (left : ℕ) → number_at width bytes ≡ Err (Illegal left) → ⊥
unfolding number_at number_spelled
number_wrong width bytes left e = absurd (cc (guard_err (ltb (length bytes) width) (Truncated (length bytes)) (Illegal left) (little_number width bytes, drop width bytes) e))

pub number_exact : (width : ℕ) → IsWidth width → Exact (number width)
number_exact width w = record {
  again = number_again width;
  takes = number_takes width w;
  illegal = λ bytes more left h e. absurd (number_wrong width bytes left e);
}

number_first : (width : ℕ) (bytes : List ℕ) (flaw : Flaw) → number_at width bytes ≡ Err flaw → left_of flaw ≡ length bytes
unfolding number_at
number_first width bytes flaw e = ap left_of (sym (guard_err (ltb (length bytes) width) (Truncated (length bytes)) flaw (little_number width bytes, drop width bytes) e))

pub number_field : (width : ℕ) → IsField (number width)
number_field width = record { one = λ n. refl; first = number_first width }

pub number_places : (width : ℕ) → IsWidth width → Places (number width)
number_places width w = field_places (number width) (number_exact width w) (number_field width) 0 (lt-ltb 0 (256 ^ width) (omega (arith, one-le-pow width 256 (omega arith))))
