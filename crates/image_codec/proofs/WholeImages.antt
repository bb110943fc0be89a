-- Whole images.
use Rattle.std.proofs.Common.{◌≡◌, ℕ, ◌-◌, Bool, true, false, cond, List, [], ◌∷◌, length, take, Ok, Err, refl, sym, ap, ◌∙◌, arith, eq-eqb}
use Rattle.std.specs.Prelude.{◌==◌, ◌&&◌, Result}
use Rattle.std.proofs.lemmas.Bool.{eqb-true}
use Rattle.std.proofs.lemmas.List.{append-nil, take_all}
use Rattle.std.proofs.Math.Seq.{take-length}
use Rattle.fsrm_model.specs.declared.row.Rows.{Rows}
use Rattle.record_fields.specs.Formats.{Read}
use Rattle.record_fields.specs.Laws.{AreBytes}
use Rattle.image_codec.specs.Images.{image, image_in, of_length}
use Rattle.image_codec.proofs.RowLaws.{image_places}

pub image_again : (R : Rows) → image.legal R ≡ true → image_in (length (image.spell R)) (image.spell R) ≡ Ok R
image_again R legal =
    let s = image.spell R in
    let own : take (length s) s ≡ s = take-length s in
    let read : image.read s ≡ Ok (R, []) = ap image.read (sym (append-nil s)) ∙ image_places.exact.again R [] legal in
    let all : (length s == length s) ≡ true = eq-eqb _ _ refl in
    ap (λ (b : List ℕ). of_length (length s == length s) (length b) (image.read b)) own ∙ rw (read, all) refl

ok_same : {X E : Type 0} (x y : X) → ◌≡◌ {A = Result X E} (Ok x) (Ok y) → x ≡ y
ok_same x y e = cc

nothing : (b : List ℕ) → (length b == 0) ≡ true → b ≡ []
nothing [] z = refl
nothing (x ∷ xs) z = absurd (omega (arith, eqb-true (length (x ∷ xs)) 0 z))

ended : (v w : Bool) (n : ℕ) (r : Rows × List ℕ) (S : Rows) → w ≡ (length r.1 == 0) → ◌≡◌ {A = Result Rows ℕ} (cond (v && w) (Ok r.0) (Err (n - length r.1))) (Ok S) → (v ≡ true) × (r ≡ (S, []))
ended true true n r S is e = (refl, ap (λ (R : Rows). (R, r.1)) (ok_same {E = ℕ} r.0 S e) ∙ ap (λ (b : List ℕ). (S, b)) (nothing r.1 (sym is)))
ended true false n r S is e = absurd (cc e)
ended false w n r S is e = absurd (cc e)

pub image_read : (is_all : Bool) (size : ℕ) (read : Read Rows) (R : Rows) → of_length is_all size read ≡ Ok R → (is_all ≡ true) × (read ≡ Ok (R, []))
image_read is_all size (Ok r) R e = let h = ended is_all (length r.1 == 0) size r R refl e in (h.0, ap (λ (x : Rows × List ℕ). Ok x) h.1)
image_read is_all size (Err flaw) R e = absurd (cc e)

pub image_takes : (len : ℕ) (bytes : List ℕ) (R : Rows) → AreBytes bytes → image_in len bytes ≡ Ok R → (image.legal R ≡ true) × (bytes ≡ image.spell R) × (length bytes ≡ len)
image_takes len bytes R are e =
    let j = image_read (length bytes == len) (length (take len bytes)) (image.read (take len bytes)) R e in
    let size : length bytes ≡ len = eqb-true (length bytes) len j.0 in
    let own : take len bytes ≡ bytes = take_all len bytes (omega (arith, size)) in
    let t = image_places.exact.takes bytes R [] are (ap image.read (sym own) ∙ j.1) in
    (t.0, t.1 ∙ append-nil (image.spell R), size)
