-- Texts of a list, one item after another.
use Rattle.std.proofs.Common.{◌≡◌, ℕ, ◌+◌, ◌≤◌, List, [], ◌∷◌, ◌++◌, length, get_or, take, drop, sym, ap, ◌∙◌}
use Rattle.std.specs.Prelude.{Some, Result, Ok, Err, flat_map}
use Rattle.std.specs.List.{slice_get}
use Rattle.std.proofs.lemmas.Grind.{flat_map-append}
use Rattle.std.proofs.lemmas.List.{take_all, take_more, take-append-drop, append-nil}
use Rattle.std.proofs.lemmas.Option.{get_or_from_slice_get, slice_get_within}
use Rattle.fsrm_outside.specs.declared.traits.Sink.{Ghosts as Sink}
use Rattle.line_parts.specs.declared.fault.TextFault.{TextFault}
use Rattle.line_parts.specs.Writes.{Writes}
use Rattle.line_parts.proofs.Sent.{JoinsWrites, told, writes_front, writes_then}

-- the texts up to a place, and one more
flat_more : {X : Type 0} (f : X → List ℕ) (items : List X) (k : ℕ) (x : X) → slice_get items k ≡ Some x → flat_map f (take (k + 1) items) ≡ flat_map f (take k items) ++ f x
flat_more f items k x h =
    ap (flat_map f) (take_more items k x (slice_get_within items k x h)) ∙ flat_map-append f (take k items) (get_or items k x ∷ [])
    ∙ ap (λ y. flat_map f (take k items) ++ (f y ++ [])) (get_or_from_slice_get items k x x h) ∙ ap (λ (xs : List ℕ). flat_map f (take k items) ++ xs) (append-nil (f x))

whole_is : {X : Type 0} (f : X → List ℕ) (items : List X) (k : ℕ) → flat_map f (take k items) ++ flat_map f (drop k items) ≡ flat_map f items
whole_is f items k = sym (flat_map-append f (take k items) (drop k items)) ∙ ap (flat_map f) (take-append-drop k items)

-- what a loop has written so far
abbrev pub Written : {S : Type 0} → Sink S → S → S → List ℕ → Type 0
Written sink before after text = Writes {T = Unit {0}} sink (Ok tt) before after text

module _ {S T X : Type 0} {sink : Sink S} (f : X → List ℕ) (items : List X) (k : ℕ) where
  -- one text more
  pub writes_one : {y z : T} {a b c : S} (x : X) → slice_get items k ≡ Some x → JoinsWrites sink → Writes sink (Ok y) a b (flat_map f (take k items)) → Writes sink (Ok z) b c (f x) → Writes sink (Ok z) a c (flat_map f (take (k + 1) items))
  writes_one x h join p q = told (sym (flat_more f items k x h)) (writes_then join p q)

  -- one that was cut off
  pub writes_one_front : {y : T} {e : TextFault} {a b c : S} (x : X) → slice_get items k ≡ Some x → JoinsWrites sink → Writes sink (Ok y) a b (flat_map f (take k items)) → Writes {T = T} sink (Err e) b c (f x) → Writes {T = T} sink (Err e) a c (flat_map f items)
  writes_one_front x h join p q =
      told (whole_is f items (k + 1)) (writes_front (flat_map f (drop (k + 1) items)) (told (sym (flat_more f items k x h)) (writes_then join p q)))

  -- all of them, once no place is left
  pub writes_all : {r : Result T TextFault} {a b : S} → length items ≤ k → Writes sink r a b (flat_map f (take k items)) → Writes sink r a b (flat_map f items)
  writes_all within p = told (ap (flat_map f) (take_all k items within)) p
