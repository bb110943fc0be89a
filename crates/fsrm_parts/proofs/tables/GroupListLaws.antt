-- Rows that are asked one after the other whether one passes a test.
use Rattle.std.proofs.Common.{◌≡◌, ℕ, ◌+◌, ◌||◌, Bool, true, false, List, drop, Some, slice_get, ap, sym, ◌∙◌}
use Rattle.std.proofs.lemmas.List.{drop_more}
use Rattle.std.proofs.lemmas.Option.{get_or_from_slice_get, slice_get_within}
use Rattle.std.specs.List.{list_any}

module _ {X : Type 0} (p : X → Bool) (xs : List X) (k : ℕ) (x : X) (all : Bool) (at : slice_get xs k ≡ Some x) (left : list_any p (drop k xs) ≡ all) where
  next : list_any p (drop k xs) ≡ (p x || list_any p (drop (k + 1) xs))
  next =
      ap (list_any p) (drop_more xs k x (slice_get_within xs k x at))
      ∙ ap (λ y. p y || list_any p (drop (k + 1) xs)) (get_or_from_slice_get xs k x x at)

  pub any_here : p x ≡ true → true ≡ all
  any_here h = sym (ap (λ b. b || list_any p (drop (k + 1) xs)) h) ∙ (sym next ∙ left)

  pub any_later : p x ≡ false → list_any p (drop (k + 1) xs) ≡ all
  any_later h = sym (ap (λ b. b || list_any p (drop (k + 1) xs)) h) ∙ (sym next ∙ left)
