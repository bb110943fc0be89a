-- What each item of a list passes, so does the one at a place.
use Rattle.std.proofs.Common.{◌≡◌, ℕ, zero, suc, Bool, true, List, [], ◌∷◌, Some, sym, ◌∙◌, ap}
use Rattle.std.specs.Prelude.{slice_get}
use Rattle.std.specs.List.{list_all}
use Rattle.std.proofs.lemmas.Option.{same_Some}
use Rattle.fsrm_base.proofs.TestLaws.{both}

pub all_at : {X : Type 0} (p : X → Bool) (xs : List X) (i : ℕ) (x : X) → list_all p xs ≡ true → slice_get xs i ≡ Some x → p x ≡ true
all_at p [] i x all at = absurd cc
all_at p (y ∷ ys) zero x all at = ap p (sym (same_Some y x at)) ∙ (both (p y) (list_all p ys) all).0
all_at p (y ∷ ys) (suc i) x all at = all_at p ys i x (both (p y) (list_all p ys) all).1 at
