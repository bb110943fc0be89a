-- Rows that are found by a test and taken away, one by one.
use Rattle.std.proofs.Common.{◌≡◌, ℕ, ◌<◌, ◌==◌, Bool, true, cond, not, inl, inr, List, [], ◌∷◌, length, Option, Some, None, refl, sym, ◌∙◌, ap, arith}
use Rattle.std.proofs.lemmas.Option.{same_Some}
use Rattle.std.specs.List.{AllByRecursion}
use Rattle.std.specs.Prelude.{filter, find, option_map}
use Rattle.fsrm_base.specs.Keyed.{has_row, row_of, without_row, is_ascending}
use Rattle.fsrm_base.proofs.EditedRows.{sum_by-without_row}
use Rattle.fsrm_base.proofs.Look.{found_has, found_own, found_passes}
use Rattle.fsrm_base.proofs.RowLaws.{each_found}
use Rattle.fsrm_base.proofs.Sums.{sum_by-ones}
use Rattle.fsrm_base.proofs.TestLaws.{eq_is, is_or_not}

-- the rows that fail the test
abbrev left : {X : Type 0} → (X → Bool) → List X → List X
left p rows = filter (λ x. not (p x)) rows

-- without the row of a number that passes they are the same
same_left : {X : Type 0} (key : X → ℕ) (p : X → Bool) (n : ℕ) (rows : List X) → AllByRecursion (λ x. (key x == n) ≡ true → p x ≡ true) rows → left p (without_row key n rows) ≡ left p rows
same_left key p n [] are = refl
same_left key p n (x ∷ rows) are =
    elim (is_or_not (key x == n)) [
      | inl own ↦ rw (own, are.0 own) (same_left key p n rows are.1)
      | inr other ↦ rw other (ap (λ xs. cond (not (p x)) (x ∷ xs) xs) (same_left key p n rows are.1))
    ]

-- without the first that passes, by its number, there are fewer, and those that fail are the same
pub record First {X : Type 0} (key : X → ℕ) (p : X → Bool) (n : ℕ) (rows : List X) : Type 0 where
  pub there : has_row key n rows ≡ true
  pub same : left p (without_row key n rows) ≡ left p rows
  pub less : length (without_row key n rows) < length rows

first_at : {X : Type 0} (key : X → ℕ) (p : X → Bool) (n : ℕ) (rows : List X) (o : Option X) → is_ascending key rows ≡ true → find p rows ≡ o → Some n ≡ option_map key o → First key p n rows
first_at key p n rows None a e h = cc
first_at key p n rows (Some r) a e h =
    let own : row_of key n rows ≡ Some r = ap (λ m. row_of key m rows) (same_Some n (key r) h) ∙ found_own key p rows r a e in
    let is : AllByRecursion (λ x. (key x == n) ≡ true → p x ≡ true) rows =
    each_found key (λ x. (key x == n) ≡ true → p x ≡ true) rows a
    (λ x found at. ap p (same_Some x r (sym found ∙ (ap (λ m. row_of key m rows) (eq_is (key x) n at) ∙ own))) ∙ found_passes p rows r e) in
    record {
      there = found_has key n rows r own;
      same = same_left key p n rows is;
      less = omega (arith, sum_by-without_row key (λ x. 1) n r rows a own, sum_by-ones rows, sum_by-ones (without_row key n rows));
    }

pub first : {X : Type 0} (key : X → ℕ) (p : X → Bool) (n : ℕ) (rows : List X) → is_ascending key rows ≡ true → Some n ≡ option_map key (find p rows) → First key p n rows
first key p n rows a h = first_at key p n rows (find p rows) a refl h

-- if none passes, all rows fail
pub none_first : {X : Type 0} (key : X → ℕ) (p : X → Bool) (rows : List X) → None ≡ option_map key (find p rows) → left p rows ≡ rows
none_first key p [] h = refl
none_first key p (x ∷ rows) h =
    elim (is_or_not (p x)) [
      | inl passes ↦ cc (rw passes at h)
      | inr fails ↦ rw fails (ap (λ xs. x ∷ xs) (none_first key p rows (rw fails at h)))
    ]
