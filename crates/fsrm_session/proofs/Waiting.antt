-- What a batch shows as it is written to.
use Rattle.std.proofs.Common.{◌≡◌, ℕ, ◌-◌, ◌≤◌, List, [], ◌++◌, length, take, drop, sym, ap, ◌∙◌, arith}
use Rattle.std.specs.Prelude.{Option, Result, Ok, Err, IfOk, OnErr}
use Rattle.std.specs.Io.KnownBytes.{append_known}
use Rattle.std.proofs.lemmas.List.{take_all, take-append-le, take-append-drop, length-drop}
use Rattle.fsrm_outside.proofs.Shown.{append_known-nil, append_known-then, shows_then}
use Rattle.fsrm_session.specs.Grows.{Grows}

-- what wasn't taken, once what was taken stands after it
rest_left : (waiting : List ℕ) (count : ℕ) → take (length waiting - count) (drop count waiting ++ take count waiting) ≡ drop count waiting
rest_left waiting count =
    take-append-le (length waiting - count) (drop count waiting) (take count waiting) (omega (arith, length-drop count waiting))
    ∙ take_all (length waiting - count) (drop count waiting) (omega (arith, length-drop count waiting))

-- a front of what waited was taken, and the rest still waits
pub shows_rest : (before device : Option (List ℕ)) (waiting taken turned left : List ℕ) (count many : ℕ) → taken ≡ waiting → device ≡ append_known before (take count taken) → turned ≡ drop count waiting ++ take count waiting → many ≡ length waiting - count → left ≡ take many turned → append_known device left ≡ append_known before waiting
shows_rest before device waiting taken turned left count many same p e n f =
    ap (append_known device) (f ∙ ap (take many) e ∙ ap (λ (k : ℕ). take k (drop count waiting ++ take count waiting)) n ∙ rest_left waiting count)
    ∙ ap (λ d. append_known d (drop count waiting)) (p ∙ ap (λ (xs : List ℕ). append_known before (take count xs)) same)
    ∙ append_known-then before (take count waiting) (drop count waiting)
    ∙ ap (append_known before) (take-append-drop count waiting)

-- all was taken, and nothing waits
pub shows_all : (before device : Option (List ℕ)) (waiting taken left : List ℕ) (count : ℕ) → taken ≡ waiting → length waiting ≤ count → device ≡ append_known before (take count taken) → left ≡ [] → append_known device left ≡ append_known before waiting
shows_all before device waiting taken left count same all p e =
    ap (append_known device) e ∙ append_known-nil device ∙ p ∙ ap (λ (xs : List ℕ). append_known before (take count xs)) same ∙ ap (append_known before) (take_all count waiting all)

-- what waited was written, and a piece waits in its place
pub shows_piece : (before device : Option (List ℕ)) (waiting emptied longer piece : List ℕ) → append_known device emptied ≡ append_known before waiting → longer ≡ emptied ++ piece → append_known device longer ≡ append_known (append_known before waiting) (take (length piece) piece)
shows_piece before device waiting emptied longer piece p e =
    ap (append_known device) e ∙ sym (append_known-then device emptied piece) ∙ ap (λ d. append_known d piece) p
    ∙ ap (append_known (append_known before waiting)) (sym (take_all (length piece) piece (omega arith)))

-- or the device took a front of the piece, and nothing waits
pub shows_direct : (before device last : Option (List ℕ)) (waiting emptied none front : List ℕ) → append_known device emptied ≡ append_known before waiting → emptied ≡ [] → none ≡ emptied → last ≡ append_known device front → append_known last none ≡ append_known (append_known before waiting) front
shows_direct before device last waiting emptied none front p e same q =
    ap (append_known last) (same ∙ e) ∙ append_known-nil last ∙ q
    ∙ ap (λ d. append_known d front) (sym (append_known-nil device) ∙ ap (append_known device) (sym e) ∙ p)

-- the device shows what it took, and nothing more
pub grows_front : (before device : Option (List ℕ)) (bytes : List ℕ) → device ≡ append_known before bytes → Grows before device
grows_front before device bytes p = record { more = bytes; shown = p }

pub grows_write : {E : Type 0} (r : Result ℕ E) (before device : Option (List ℕ)) (piece : List ℕ) → IfOk r (λ n. device ≡ append_known before (take n piece)) → OnErr r (device ≡ before) → Grows before device
grows_write (Ok n) before device piece shown same = grows_front before device (take n piece) shown
grows_write (Err e) before device piece shown same = grows_front before device [] (same ∙ sym (append_known-nil before))

pub grows_then : (a b c : Option (List ℕ)) → Grows a b → Grows b c → Grows a c
grows_then a b c p q = record { more = p.more ++ q.more; shown = shows_then a b c p.more q.more p.shown q.shown }
