-- Tests of all rows, if the rows ascend: what fails one is a row that is found by its number.
use Rattle.std.proofs.Common.{◌≡◌, ℕ, Bool, true, false, cond, not, ◌||◌, ◌&&◌, List, [], ◌∷◌, refl, ◌∙◌, ap, subst, inl, inr, Some}
use Rattle.std.proofs.lemmas.Option.{same_Some}
use Rattle.std.specs.Prelude.{filter, find}
use Rattle.std.specs.List.{list_any, list_all}
use Rattle.fsrm_base.specs.Keyed.{is_ascending, row_of}
use Rattle.fsrm_base.proofs.TestLaws.{is_or_not, both}
use Rattle.fsrm_base.proofs.Look.{is_some-find, some_row, found_own, found_passes}

-- the first row that passes
pub record Member {X : Type 0} (key : X → ℕ) (p : X → Bool) (rows : List X) : Type 0 where
  pub row : X
  pub first : find p rows ≡ Some row
  pub found : row_of key (key row) rows ≡ Some row
  pub passes : p row ≡ true

pub member : {X : Type 0} (key : X → ℕ) (p : X → Bool) (rows : List X) → is_ascending key rows ≡ true → list_any p rows ≡ true → Member key p rows
member key p rows a h =
    let f = some_row _ (is_some-find p rows ∙ h) in
    record { row = f.row; first = f.is; found = found_own key p rows f.row a f.is; passes = found_passes p rows f.row f.is }

-- none passes if each that is found fails
pub none_passes : {X : Type 0} (key : X → ℕ) (p : X → Bool) (rows : List X) → is_ascending key rows ≡ true → ((r : X) → row_of key (key r) rows ≡ Some r → p r ≡ false) → list_any p rows ≡ false
none_passes key p rows a h =
    elim (is_or_not (list_any p rows)) [
      | inl t ↦ let m = member key p rows a t in let fails : p m.row ≡ false = h m.row m.found in let passes : p m.row ≡ true = m.passes in cc
      | inr f ↦ f
    ]

fails_at : (a b c : Bool) → (not a || c) ≡ false → (c ≡ false → b ≡ true) → (a && b) ≡ true
fails_at true b c h f = f h
fails_at false b c h f = cc

none_fails : {X : Type 0} (p : X → Bool) (rows : List X) → list_any (λ r. not (p r)) rows ≡ false → list_all p rows ≡ true
none_fails p [] h = refl
none_fails p (x ∷ rows) h = fails_at (p x) (list_all p rows) (list_any (λ r. not (p r)) rows) h (none_fails p rows)

-- all pass if each does that is found
pub all_pass : {X : Type 0} (key : X → ℕ) (p : X → Bool) (rows : List X) → is_ascending key rows ≡ true → ((r : X) → row_of key (key r) rows ≡ Some r → p r ≡ true) → list_all p rows ≡ true
all_pass key p rows a h = none_fails p rows (none_passes key (λ r. not (p r)) rows a (λ r f. ap not (h r f)))

-- if all pass, what is found does
passed_at : {X : Type 0} (p q : X → Bool) (x r : X) (rows : List X) (b : Bool) → p x ≡ true → cond b (Some x) (find q rows) ≡ Some r → (find q rows ≡ Some r → p r ≡ true) → p r ≡ true
passed_at p q x r rows true e h f = subst (λ y. p y ≡ true) (same_Some x r h) e
passed_at p q x r rows false e h f = f h

pub all_found : {X : Type 0} (p q : X → Bool) (rows : List X) (r : X) → list_all p rows ≡ true → find q rows ≡ Some r → p r ≡ true
all_found p q [] r a h = cc
all_found p q (x ∷ rows) r a h =
    let parts : (p x ≡ true) × (list_all p rows ≡ true) = both _ _ a in
    passed_at p q x r rows (q x) parts.0 h (all_found p q rows r parts.1)

pub filter_none : {X : Type 0} (p : X → Bool) (rows : List X) → list_any p rows ≡ false → filter p rows ≡ []
filter_none p [] h = refl
filter_none p (x ∷ rows) h = dropped_at x (filter p rows) (p x) (list_any p rows) h (filter_none p rows)
  where
    dropped_at : {X : Type 0} (x : X) (kept : List X) (b c : Bool) → (b || c) ≡ false → (c ≡ false → kept ≡ []) → cond b (x ∷ kept) kept ≡ []
    dropped_at x kept true c h f = cc
    dropped_at x kept false c h f = f h
