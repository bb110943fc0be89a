-- What an image is read as is kept as it is.
use Rattle.std.proofs.Common.{◌≡◌, ℕ, zero, suc, true, List, [], ◌∷◌, length, take, Option, Some, None, Ok, refl, sym, ap, subst, ◌∙◌}
use Rattle.std.specs.Prelude.{◌==◌, map, nat_eq}
use Rattle.std.specs.List.{flat_map, list_all}
use Rattle.std.proofs.lemmas.Bool.{eqb-true}
use Rattle.fsrm_model.specs.declared.row.QuotaRow.{QuotaRow}
use Rattle.fsrm_model.specs.declared.row.QuotaState.{QuotaState}
use Rattle.fsrm_model.specs.declared.row.QuotaState.TheVariants.{Complete, Disabled, Incomplete}
use Rattle.fsrm_model.specs.declared.row.Rows.{Rows}
use Rattle.fsrm_model.specs.store.Lasting.{flagged, flagged_quota, lasting}
use Rattle.record_fields.specs.Formats.{◌>>=◌, Format, judged as judged_value, known_at, items_at, listed_at, number, truth, optional, ◌⊗◌}
use Rattle.record_fields.proofs.ReadLaws.{bind_ok, ok_is}
use Rattle.record_codec.proofs.KindLaws.{chosen}
use Rattle.image_codec.specs.Choices.{state, state_of}
use Rattle.image_codec.specs.Images.{image, image_in, rows_of, RowsValues}
use Rattle.image_codec.specs.Pieces.{pieces, piece_legal, piece_spelled}
use Rattle.image_codec.specs.Rows.{rows, node, threshold, quota, quota_of, QuotaValues, template, auto, group, screen, except, job, act, audit}
use Rattle.image_codec.proofs.LegalLaws.{legal_image}
use Rattle.image_codec.proofs.PieceLaws.{pieces_spelled}
use Rattle.image_codec.proofs.WholeImages.{image_again, image_read}

-- ---- what holds of each value that is read, whatever the bytes are
record Always {X : Type 0} (f : Format X) (P : X → Type 0) : Type 0 where
  so : (bytes : List ℕ) (x : X) (rest : List ℕ) → f.read bytes ≡ Ok (x, rest) → P x

first_so : {A B : Type 0} (f : Format A) (g : Format B) (P : A → Type 0) → Always f P → Always (f ⊗ g) (λ p. P p.0)
first_so {A = A} {B = B} f g P law = record {
  so = λ bytes p rest e.
      let a = bind_ok (f.read bytes) (λ a. g.read a.1 >>= λ b. Ok ((a.0, b.0), b.1)) (p, rest) e in
      let b = bind_ok (g.read a.0.1) (λ b. Ok ((a.0.0, b.0), b.1)) (p, rest) a.2 in
      subst (λ (x : (A × B) × List ℕ). P x.0.0) (ok_is ((a.0.0, b.0.0), b.0.1) (p, rest) b.2) (law.so bytes a.0.0 a.0.1 a.1);
}

second_so : {A B : Type 0} (f : Format A) (g : Format B) (P : B → Type 0) → Always g P → Always (f ⊗ g) (λ p. P p.1)
second_so {A = A} {B = B} f g P law = record {
  so = λ bytes p rest e.
      let a = bind_ok (f.read bytes) (λ a. g.read a.1 >>= λ b. Ok ((a.0, b.0), b.1)) (p, rest) e in
      let b = bind_ok (g.read a.0.1) (λ b. Ok ((a.0.0, b.0), b.1)) (p, rest) a.2 in
      subst (λ (x : (A × B) × List ℕ). P x.0.1) (ok_is ((a.0.0, b.0.0), b.0.1) (p, rest) b.2) (law.so a.0.1 b.0.0 b.0.1 b.1);
}

judged_some : {X : Type 0} (bytes rest : List ℕ) (o : Option X) (x : X) (after : List ℕ) → judged_value bytes rest o ≡ Ok (x, after) → o ≡ Some x
judged_some bytes rest (Some y) x after e = ap (λ q. Some q.0) (ok_is (y, rest) (x, after) e)
judged_some bytes rest None x after e = absurd (cc e)

known_so : {A X : Type 0} (known : A → Option X) (f : Format A) (P : A → Type 0) (Q : X → Type 0) → Always f P → ((a : A) (x : X) → P a → known a ≡ Some x → Q x)
    → (bytes : List ℕ) (x : X) (rest : List ℕ) → known_at known f bytes ≡ Ok (x, rest) → Q x
unfolding known_at
known_so known f P Q law each bytes x rest e =
    let a = bind_ok (f.read bytes) (λ a. judged_value bytes a.1 (known a.0)) (x, rest) e in
    each a.0.0 x (law.so bytes a.0.0 a.0.1 a.1) (judged_some bytes a.0.1 (known a.0.0) x rest a.2)

-- each of a list is kept as it is, and so the list
items_kept : {X : Type 0} (f : Format X) (kept : X → X) → Always f (λ x. kept x ≡ x) → (n : ℕ) (bytes : List ℕ) (xs : List X) (rest : List ℕ) → items_at f n bytes ≡ Ok (xs, rest) → map kept xs ≡ xs
unfolding items_at
items_kept {X = X} f kept law zero bytes xs rest e = subst (λ (p : List X × List ℕ). map kept p.0 ≡ p.0) (ok_is ([], bytes) (xs, rest) e) refl
items_kept {X = X} f kept law (suc n) bytes xs rest e =
    let x = bind_ok (f.read bytes) (λ x. items_at f n x.1 >>= λ xs. Ok (x.0 ∷ xs.0, xs.1)) (xs, rest) e in
    let ys = bind_ok (items_at f n x.0.1) (λ xs. Ok (x.0.0 ∷ xs.0, xs.1)) (xs, rest) x.2 in
    subst (λ (p : List X × List ℕ). map kept p.0 ≡ p.0) (ok_is (x.0.0 ∷ ys.0.0, ys.0.1) (xs, rest) ys.2)
    (ap (λ (y : X). y ∷ map kept ys.0.0) (law.so bytes x.0.0 x.0.1 x.1) ∙ ap (λ (l : List X). x.0.0 ∷ l) (items_kept f kept law n x.0.1 ys.0.0 ys.0.1 ys.1))

rows_kept : {X : Type 0} (f : Format X) (kept : X → X) → Always f (λ x. kept x ≡ x) → Always (rows f) (λ xs. map kept xs ≡ xs)
unfolding listed_at
rows_kept f kept law = record {
  so = λ bytes xs rest e.
      let n = bind_ok ((number 4).read bytes) (λ n. items_at f n.0 n.1) (xs, rest) e in
      items_kept f kept law n.0.0 n.0.1 xs rest n.2;
}

-- ---- a quota that is read isn't being counted
state_kept : (n : ℕ) (s : QuotaState) → state_of n ≡ Some s → flagged s ≡ s
state_kept n s =
    chosen (λ s. flagged s ≡ s) (nat_eq n 0) Complete s _ (λ e. refl)
    (chosen (λ s. flagged s ≡ s) (nat_eq n 1) Disabled s _ (λ e. refl)
    (chosen (λ s. flagged s ≡ s) (nat_eq n 2) Incomplete s None (λ e. refl) (λ e. absurd (cc e))))

any_number : Always (number 1) (λ n. Unit {0})
any_number = record { so = λ bytes n rest e. tt }

kept_state : Always state (λ s. flagged s ≡ s)
kept_state = record { so = known_so state_of (number 1) (λ n. Unit {0}) (λ s. flagged s ≡ s) any_number (λ n s u. state_kept n s) }

some_same : {X : Type 0} (x y : X) → Some x ≡ Some y → x ≡ y
some_same x y e = cc e

quota_kept : (v : QuotaValues) (q : QuotaRow) → flagged v.1.1.1.0 ≡ v.1.1.1.0 → Some (quota_of v) ≡ Some q → flagged_quota q ≡ q
quota_kept v q kept is = subst (λ (q : QuotaRow). flagged_quota q ≡ q) (some_same (quota_of v) q is) (ap (λ (s : QuotaState). record (quota_of v) { state = s }) kept)

kept_quota : Always quota (λ q. flagged_quota q ≡ q)
kept_quota =
    let rest = rows threshold ⊗ optional (number 4) ⊗ number 8 ⊗ number 8 in
    let state_first = first_so state rest (λ s. flagged s ≡ s) kept_state in
    let truth_first = second_so truth (state ⊗ rest) (λ v. flagged v.0 ≡ v.0) state_first in
    let limit_first = second_so (number 8) (truth ⊗ state ⊗ rest) (λ v. flagged v.1.0 ≡ v.1.0) truth_first in
    let all = second_so (number 4) (number 8 ⊗ truth ⊗ state ⊗ rest) (λ v. flagged v.1.1.0 ≡ v.1.1.0) limit_first in
    record {
      so = known_so (λ v. Some (quota_of v)) (number 4 ⊗ number 8 ⊗ truth ⊗ state ⊗ rest) (λ v. flagged v.1.1.1.0 ≡ v.1.1.1.0) (λ q. flagged_quota q ≡ q) all quota_kept;
    }

-- ---- an image
rows_so : (v : RowsValues) (R : Rows) → map flagged_quota v.1.1.1.0 ≡ v.1.1.1.0 → Some (rows_of v) ≡ Some R → lasting R ≡ R
rows_so v R kept is = subst (λ (R : Rows). lasting R ≡ R) (some_same (rows_of v) R is) (ap (λ (qs : List QuotaRow). record (rows_of v) { quotas = qs }) kept)

kept_image : Always image (λ R. lasting R ≡ R)
kept_image =
    let rest = rows template ⊗ rows auto ⊗ rows group ⊗ rows screen ⊗ rows except ⊗ rows job ⊗ rows act ⊗ rows audit in
    let quotas_first = first_so (rows quota) rest (λ qs. map flagged_quota qs ≡ qs) (rows_kept quota flagged_quota kept_quota) in
    let nodes_first = second_so (rows node) (rows quota ⊗ rest) (λ v. map flagged_quota v.0 ≡ v.0) quotas_first in
    let limit_first = second_so (number 4) (rows node ⊗ rows quota ⊗ rest) (λ v. map flagged_quota v.1.0 ≡ v.1.0) nodes_first in
    let all = second_so (number 8) (number 4 ⊗ rows node ⊗ rows quota ⊗ rest) (λ v. map flagged_quota v.1.1.0 ≡ v.1.1.0) limit_first in
    record {
      so = known_so (λ v. Some (rows_of v)) (number 8 ⊗ number 4 ⊗ rows node ⊗ rows quota ⊗ rest) (λ v. map flagged_quota v.1.1.1.0 ≡ v.1.1.1.0) (λ R. lasting R ≡ R) all rows_so;
    }

pub read_kept : (len : ℕ) (bytes : List ℕ) (R : Rows) → image_in len bytes ≡ Ok R → lasting R ≡ R
read_kept len bytes R is = kept_image.so (take len bytes) R [] (image_read (length bytes == len) (length (take len bytes)) (image.read (take len bytes)) R is).1

pub legal_kept : (R : Rows) → image.legal R ≡ true → lasting R ≡ R
legal_kept R legal = read_kept (length (image.spell R)) (image.spell R) R (image_again R legal)

pub read_whole : (len : ℕ) (bytes : List ℕ) (R : Rows) → image_in len bytes ≡ Ok R → length bytes ≡ len
read_whole len bytes R is = eqb-true (length bytes) len (image_read (length bytes == len) (length (take len bytes)) (image.read (take len bytes)) R is).0

pub written_again : (R : Rows) → list_all piece_legal (pieces R) ≡ true → image_in (length (flat_map piece_spelled (pieces R))) (flat_map piece_spelled (pieces R)) ≡ Ok (lasting R)
written_again R legal = subst (λ (bytes : List ℕ). image_in (length bytes) bytes ≡ Ok (lasting R)) (sym (pieces_spelled R)) (image_again (lasting R) (legal_image R legal))
