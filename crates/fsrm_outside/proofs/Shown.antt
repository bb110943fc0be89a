-- What is shown, and fronts of it.
use Rattle.std.proofs.Common.{◌≡◌, ℕ, ◌+◌, ◌-◌, ◌≤◌, List, [], ◌++◌, length, take, drop, sym, ap, ◌∙◌, arith, refl, append_assoc}
use Rattle.std.specs.Prelude.{Option, Some, None}
use Rattle.std.specs.Io.KnownBytes.{append_known}
use Rattle.std.proofs.Math.Seq.{take-add}
use Rattle.std.proofs.lemmas.List.{take_all, take-append-drop, length-drop, append-nil}
use Rattle.fsrm_outside.specs.Shown.{ShowsFront}

-- one write after another
pub append_known-then : (shown : Option (List ℕ)) (xs ys : List ℕ) → append_known (append_known shown xs) ys ≡ append_known shown (xs ++ ys)
append_known-then None xs ys = refl
append_known-then (Some shown) xs ys = ap Some (append_assoc shown xs ys)

pub append_known-nil : (shown : Option (List ℕ)) → append_known shown [] ≡ shown
append_known-nil None = refl
append_known-nil (Some shown) = ap Some (append-nil shown)

pub shows_then : (a b c : Option (List ℕ)) (xs ys : List ℕ) → b ≡ append_known a xs → c ≡ append_known b ys → c ≡ append_known a (xs ++ ys)
shows_then a b c xs ys p q = q ∙ ap (λ s. append_known s ys) p ∙ append_known-then a xs ys

-- a front of what comes next
pub shows_then_front : (a b c : Option (List ℕ)) (xs ys : List ℕ) → b ≡ append_known a xs → ShowsFront b c ys → ShowsFront a c (xs ++ ys)
shows_then_front a b c xs ys p q = record {
  front = xs ++ q.front;
  shown = shows_then a b c xs q.front p q.shown;
  is_front = (q.is_front.0, ap (λ (zs : List ℕ). xs ++ zs) q.is_front.1 ∙ sym (append_assoc xs q.front q.is_front.0));
}

-- what is left of a piece from a place on
left_whole : (bytes : List ℕ) (done : ℕ) → take (length bytes - done) (drop done bytes) ≡ drop done bytes
left_whole bytes done = take_all (length bytes - done) (drop done bytes) (omega (arith, length-drop done bytes))

-- so many bytes more
pub shows_more : (a b c : Option (List ℕ)) (bytes : List ℕ) (done count : ℕ) → b ≡ append_known a (take done bytes) → c ≡ append_known b (take count (take (length bytes - done) (drop done bytes))) → c ≡ append_known a (take (done + count) bytes)
shows_more a b c bytes done count p q =
    shows_then a b c (take done bytes) (take count (drop done bytes)) p (q ∙ ap (λ xs. append_known b (take count xs)) (left_whole bytes done))
    ∙ ap (append_known a) (sym (take-add done count bytes))

-- so many bytes are a front
pub shows_front : (a b : Option (List ℕ)) (bytes : List ℕ) (count : ℕ) → b ≡ append_known a (take count bytes) → ShowsFront a b bytes
shows_front a b bytes count p = record { front = take count bytes; shown = p; is_front = (drop count bytes, sym (take-append-drop count bytes)) }

-- what is taken of the rest stays within the whole
pub taken_within : (bytes : List ℕ) (done count : ℕ) → done ≤ length bytes → count ≤ length (take (length bytes - done) (drop done bytes)) → done + count ≤ length bytes
taken_within bytes done count before now = omega (arith, length-drop done bytes, ap length (left_whole bytes done))
