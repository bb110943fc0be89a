-- Rows that are found, and lent.
use Rattle.std.proofs.Common.{◌≡◌, ℕ, ◌≤◌, ◌+◌, ◌==◌, Bool, true, false, cond, not, List, length, drop, Option, Some, None, refl, sym, ◌∙◌, ap, arith}
use Rattle.std.proofs.lemmas.List.{at_drop_more}
use Rattle.std.proofs.lemmas.List.Sums.{count_by-le-length, length-filter}
use Rattle.std.proofs.lemmas.Option.{get_or_from_slice_get, slice_get_within}
use Rattle.std.specs.Borrow.{Bor}
use Rattle.std.specs.List.{list_any}
use Rattle.std.specs.Option.{option_copied}
use Rattle.std.specs.Prelude.{find, is_some, slice_get}
use Rattle.fsrm_base.specs.Keyed.{has_row, row_of, without_row}
use Rattle.fsrm_base.proofs.Look.{is_some-find, none_row}
use Rattle.fsrm_base.proofs.TestLaws.{eq_is}
use Rattle.row_table.specs.Held.{Held}

abbrev pub held_of : {X : Type 0} → List X → ℕ → Held X
held_of rows room = record { rows = rows; room = room }

-- rows without one are no more
pub less_length : {X : Type 0} (key : X → ℕ) (n : ℕ) (rows : List X) → length (without_row key n rows) ≤ length rows
less_length key n rows = omega (arith, length-filter (λ r. not (key r == n)) rows, count_by-le-length (λ r. not (key r == n)) rows)

-- a change of the row of a number by which it keeps that leaves each row its number
pub same_key : {X : Type 0} (key : X → ℕ) (n : ℕ) (c : X → X) → ((r : X) → key r ≡ n → key (c r) ≡ n) → (r : X) (b : Bool) → (key r == n) ≡ b → key (cond b (c r) r) ≡ key r
same_key key n c number r true e = let is : key r ≡ n = eq_is (key r) n e in number r is ∙ sym is
same_key key n c number r false e = refl

pub none_found : {X : Type 0} (key : X → ℕ) (rows : List X) (n : ℕ) → has_row key n rows ≡ false → row_of key n rows ≡ None
none_found key rows n absent = none_row _ (is_some-find _ rows ∙ absent)

-- a row that is looked for is lent exactly if there is one, by a test or by its number
pub is_lent : {X : Type 0} (o : Option (Bor X)) → is_some o ≡ is_some (option_copied o)
is_lent None = refl
is_lent (Some row) = refl

pub lent_any : {X : Type 0} (p : X → Bool) (rows : List X) (o : Option (Bor X)) → option_copied o ≡ find p rows → is_some o ≡ list_any p rows
lent_any p rows o found = is_lent o ∙ (ap is_some found ∙ is_some-find p rows)

-- what is found from a place on
pub find_at : {X : Type 0} (p : X → Bool) (rows : List X) (i : ℕ) (r : X) → slice_get rows i ≡ Some r → find p (drop i rows) ≡ cond (p r) (Some r) (find p (drop (i + 1) rows))
find_at p rows i r h =
    at_drop_more (find p) rows i r (slice_get_within rows i r h)
    ∙ ap (λ x. cond (p x) (Some x) (find p (drop (i + 1) rows))) (get_or_from_slice_get rows i r r h)
