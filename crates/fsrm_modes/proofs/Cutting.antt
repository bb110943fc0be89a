-- Pieces of a script, cut at their LFs.
use Rattle.std.proofs.Common.{◌≡◌, ℕ, zero, suc, ◌+◌, ◌-◌, ◌<◌, ◌≤◌, ◌==◌, Bool, true, false, List, [], ◌∷◌, ◌++◌, length, take, drop, refl, sym, ap, ◌∙◌, append_assoc, add-one, arith, Some, None}
use Rattle.std.specs.Prelude.{slice_index, min}
use Rattle.std.specs.List.{list_any}
use Rattle.std.proofs.lemmas.List.{take_min, take_all, length-drop, nil_from_length}
use Rattle.std.proofs.Math.Seq.{take-append-add}
use Rattle.std.proofs.lemmas.Bool.{eqb-true, eq-eqb, both_ways}
use Rattle.memchr.specs.Find.{IsFirstByte, is_byte}
use Rattle.fsrm_model.specs.lines.Script.{is_end}
use Rattle.fsrm_modes.specs.Bytes.{CutsLine}
use Rattle.fsrm_base.proofs.TestLaws.{nor, not_true}

-- no LF at any place
none_ends : (bytes : List ℕ) → ((k : ℕ) → k < length bytes → is_end (slice_index bytes k) ≡ true → ⊥) → list_any is_end bytes ≡ false
none_ends [] h = refl
none_ends (byte ∷ bytes) h = nor (is_end byte) (list_any is_end bytes) (not_true (is_end byte) (h 0 (omega arith))) (none_ends bytes (λ k less. h (suc k) (omega arith)))

-- the first LF
record CutAt (bytes : List ℕ) (place : ℕ) : Type 0 where
  one_line : list_any is_end (take place bytes) ≡ false
  cut : bytes ≡ take place bytes ++ 10 ∷ drop (place + 1) bytes

cut_at : (bytes : List ℕ) (k : ℕ) → k < length bytes → ((j : ℕ) → j < k → is_end (slice_index bytes j) ≡ true → ⊥) → is_end (slice_index bytes k) ≡ true → CutAt bytes k
cut_at [] k within before here = absurd (omega arith)
cut_at (byte ∷ bytes) zero within before here =
    let is : byte ≡ 10 = eqb-true byte 10 here in
    record { one_line = refl; cut = ap (λ (b : ℕ). b ∷ bytes) is }
cut_at (byte ∷ bytes) (suc k) within before here =
    let later = cut_at bytes k (omega arith) (λ j less. before (suc j) (omega arith)) here in
    let rest : drop (suc k + 1) (byte ∷ bytes) ≡ drop (k + 1) bytes = rw (add-one, add-one) refl in
    record {
      one_line = nor (is_end byte) (list_any is_end (take k bytes)) (not_true (is_end byte) (before 0 (omega arith))) later.one_line;
      cut = ap (λ (bs : List ℕ). byte ∷ bs) later.cut ∙ ap (λ (bs : List ℕ). byte ∷ (take k bytes ++ 10 ∷ bs)) (sym rest);
    }

-- what a search for an LF tells
pub no_line_ends : (bytes : List ℕ) → IsFirstByte (is_byte 10) bytes None → list_any is_end bytes ≡ false
no_line_ends bytes h = none_ends bytes (λ k less. h k (omega arith) less)

pub line_ends : (bytes : List ℕ) (place : ℕ) → IsFirstByte (is_byte 10) bytes (Some place) → CutsLine bytes (take place bytes) (take (length bytes - (place + 1)) (drop (place + 1) bytes))
line_ends bytes place h =
    let at = cut_at bytes place h.0.high (λ j less. h.0.before j (omega arith) less) h.1 in
    let rest : take (length bytes - (place + 1)) (drop (place + 1) bytes) ≡ drop (place + 1) bytes = take_all (length bytes - (place + 1)) (drop (place + 1) bytes) (omega (arith, length-drop (place + 1) bytes)) in
    record { one_line = at.one_line; cut = at.cut ∙ ap (λ (bs : List ℕ). take place bytes ++ 10 ∷ bs) (sym rest) }

-- one line more is cut off
pub cut_more : (piece done rest line left : List ℕ) → piece ≡ done ++ rest → CutsLine rest line left → piece ≡ (done ++ (line ++ 10 ∷ [])) ++ left
cut_more piece done rest line left e c =
    e
    ∙ ap (λ (bs : List ℕ). done ++ bs) (c.cut ∙ sym (append_assoc line (10 ∷ []) left))
    ∙ sym (append_assoc done (line ++ 10 ∷ []) left)

-- whether something is held
pub none_held : (count : ℕ) (held : List ℕ) (empty : Bool) → count ≡ length held → empty ≡ (count == 0) → empty ≡ true → held ≡ []
none_held count held empty e is true_now = nil_from_length held (sym e ∙ eqb-true count 0 (sym is ∙ true_now))

pub some_held : (count : ℕ) (held : List ℕ) (empty : Bool) → count ≡ length held → empty ≡ (count == 0) → empty ≡ false → held ≡ [] → ⊥
some_held count held empty e is false_now nothing = both_ways empty false_now (is ∙ eq-eqb count 0 (e ∙ ap length nothing))

-- as much of a line as there is room for
pub hold_more : (held bytes next : List ℕ) (room count : ℕ) → length held ≤ 65538 → room ≡ 65538 - length held → count ≡ min room (length bytes) → next ≡ held ++ take count bytes → next ≡ take 65538 (held ++ bytes)
hold_more held bytes next room count short r k e =
    let whole : length held + room ≡ 65538 = omega arith in
    e
    ∙ ap (λ (n : ℕ). held ++ take n bytes) k
    ∙ ap (λ (bs : List ℕ). held ++ bs) (take_min room bytes)
    ∙ sym (take-append-add held bytes room)
    ∙ ap (λ (n : ℕ). take n (held ++ bytes)) whole
