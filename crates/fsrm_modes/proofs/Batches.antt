-- What a device shows of a batch over it.
use Rattle.std.proofs.Common.{◌≡◌, ℕ, List, [], ◌++◌, length, drop, refl, sym, ap, subst, ◌∙◌, append_assoc}
use Rattle.std.specs.Prelude.{Option, Some, None, Result, Ok, Err, OnOk, OnErr}
use Rattle.std.specs.Io.KnownBytes.{append_known}
use Rattle.std.proofs.lemmas.List.{append-nil}
use Rattle.std.proofs.Math.Seq.{drop-append_seam}
use Rattle.fsrm_outside.specs.Shown.{ShowsFront}
use Rattle.fsrm_outside.proofs.Shown.{append_known-nil}
use Rattle.fsrm_session.specs.Grows.{Grows}

-- what holds of the last value behind a reference that was kept holds of what it lent
pub ended_as : {T : Type 0} (P : T → Type 0) (lent last : T) (first kept : ℕ) → kept ≡ first → (first ≡ kept → lent ≡ last) → P last → P lent
ended_as P lent last first kept same ends p = subst P (sym (ends (sym same))) p

pub always_err : {T E : Type 0} {P : Type 0} (r : Result T E) → P → OnErr r P
always_err (Ok x) p = tt
always_err (Err e) p = p

-- if two lists begin with the same, their rests are the same if they are
same_rest : (xs ys zs : List ℕ) → xs ++ ys ≡ xs ++ zs → ys ≡ zs
same_rest xs ys zs e = sym (drop-append_seam xs ys) ∙ ap (drop (length xs)) e ∙ drop-append_seam xs zs

some_same : (xs ys : List ℕ) → Some xs ≡ Some ys → xs ≡ ys
some_same xs ys e = cc

-- what the device shows begins what the batch shows
device_front : (before device : Option (List ℕ)) (waiting written : List ℕ) → Grows before device → append_known device waiting ≡ append_known before written → ShowsFront before device written
device_front None device waiting written g e = record { front = []; shown = g.shown; is_front = (written, refl) }
device_front (Some shown) device waiting written g e =
    let whole : Some ((shown ++ g.more) ++ waiting) ≡ Some (shown ++ written) = ap (λ d. append_known d waiting) (sym g.shown) ∙ e in
    let rest : g.more ++ waiting ≡ written = same_rest shown (g.more ++ waiting) written (sym (append_assoc shown g.more waiting) ∙ some_same ((shown ++ g.more) ++ waiting) (shown ++ written) whole) in
    record { front = g.more; shown = g.shown; is_front = (waiting, sym rest) }

-- before a batch is written to, nothing waits in it
begun : (before : Option (List ℕ)) (none : List ℕ) → none ≡ [] → append_known before none ≡ before
begun before none e = ap (append_known before) e ∙ append_known-nil before

-- a text that the batch shows, once all that waited was written
pub shown_device : (before shown device : Option (List ℕ)) (none waiting text : List ℕ) → none ≡ [] → waiting ≡ [] → shown ≡ append_known (append_known before none) text → append_known device waiting ≡ shown → device ≡ append_known before text
shown_device before shown device none waiting text e f p q =
    sym (append_known-nil device) ∙ ap (append_known device) (sym f) ∙ q ∙ p ∙ ap (λ s. append_known s text) (begun before none e)

-- or some of it
pub some_device : (before shown device : Option (List ℕ)) (none waiting text : List ℕ) → none ≡ [] → Grows before device → ShowsFront (append_known before none) shown text → append_known device waiting ≡ shown → ShowsFront before device text
some_device before shown device none waiting text e g p q =
    let f = device_front before device waiting p.front g (q ∙ p.shown ∙ ap (λ s. append_known s p.front) (begun before none e)) in
    record { front = f.front; shown = f.shown; is_front = (f.is_front.0 ++ p.is_front.0, p.is_front.1 ∙ ap (λ (l : List ℕ). l ++ p.is_front.0) f.is_front.1 ∙ append_assoc f.front f.is_front.0 p.is_front.0) }

-- all of it was shown by the batch
pub as_front : (before shown : Option (List ℕ)) (text : List ℕ) → shown ≡ append_known before text → ShowsFront before shown text
as_front before shown text p = record { front = text; shown = p; is_front = ([], sym (append-nil text)) }
