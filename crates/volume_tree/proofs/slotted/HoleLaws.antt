-- The numbers of the empty slots: which one is the least free number, and what they are after an edit.
use Rattle.std.proofs.Common.{◌≡◌, ℕ, ◌+◌, ◌<◌, ◌≤◌, ◌==◌, Bool, true, false, not, ◌||◌, ◌&&◌, List, [], ◌∷◌, length, refl, sym, ◌∙◌, ap, subst, arith, nat_lt, Some, None, Option}
use Rattle.std.proofs.lemmas.Bool.Decides.{nat_tests}
use Rattle.std.proofs.lemmas.Option.{same_Some}
use Rattle.std.specs.Prelude.{is_some, slice_get, max}
use Rattle.fsrm_model.specs.declared.row.NodeRow.{NodeRow}
use Rattle.fsrm_base.specs.Keyed.{has_row, with_row, with_change, without_row}
use Rattle.fsrm_base.specs.Numbers.{is_in, is_set, with_number, without_number}
use Rattle.fsrm_model.specs.nodes.Tree.{number, fresh}
use Rattle.fsrm_base.proofs.EditedRows.{find-with_row_same}
use Rattle.fsrm_base.proofs.Look.{is_some-find, has_row-change, has_row-without, has_row-without_other, has_row-new_other}
use Rattle.fsrm_base.proofs.TestLaws.{both, clash, eq_is, eq_same, eq_test, eq_turned, same_tests, lt_is, lt_test, not_true, is_false}
use Rattle.fsrm_base.proofs.NumberLaws.{in_with, in_without, set_with, set_without, first_least}
use Rattle.volume_tree.specs.Kept.{AreHoles, AreSlots, is_hole, rows_of}
use Rattle.volume_tree.proofs.slotted.FreshLaws.{fresh_is}
use Rattle.node_order.proofs.SlotLaws.{filled, row_past}
use Rattle.node_order.proofs.SlotRows.{slots_ascend}

-- what isn't a hole among the slots is a row
filled_slot : (a b : Bool) → (a && not b) ≡ false → a ≡ true → b ≡ true
filled_slot a true h e = refl
filled_slot a false h e = absurd (cc e)

-- a hole has no row
empty_slot : (a b : Bool) → (a && not b) ≡ true → b ≡ false
empty_slot a b h = is_false b (both a (not b) h).1

-- below the least hole all slots have rows
below_hole : (slots : List (Option NodeRow)) (n j : ℕ) (holes : List ℕ) → AreHoles slots (n ∷ holes) → j < n → is_in (n ∷ holes) j ≡ false
below_hole slots n j holes h l = not_true _ (λ e. first (n == j) refl e)
  where
    first : (b : Bool) → (n == j) ≡ b → (b || is_in holes j) ≡ true → ⊥
    first true s e = let same : n ≡ j = eq_is n j s in absurd (omega arith)
    first false s e = let up : n < j = first_least n j holes h.set e in absurd (omega arith)

first_in : (n : ℕ) (ns : List ℕ) → is_in (n ∷ ns) n ≡ true
first_in n ns = ap (λ b. b || is_in ns n) (eq_same n)

-- the least hole is the least free number
least_hole : (slots : List (Option NodeRow)) (n : ℕ) (holes : List ℕ) → AreSlots 0 slots → AreHoles slots (n ∷ holes) → n ≡ fresh (rows_of slots)
least_hole slots n holes a h =
    let hole : is_hole slots n ≡ true = sym (h.members n) ∙ first_in n holes in
    let within : n < length slots = lt_is n (length slots) (both _ _ hole).0 in
    fresh_is (rows_of slots) n (slots_ascend slots a) (empty_slot _ _ hole)
    (λ j l. filled_slot (nat_lt j (length slots)) _ (sym (h.members j) ∙ below_hole slots n j holes h l) (lt_test j (length slots) (omega arith)))

-- without a hole it is the next slot's
no_hole : (slots : List (Option NodeRow)) → AreSlots 0 slots → AreHoles slots [] → length slots ≡ fresh (rows_of slots)
no_hole slots a h =
    fresh_is (rows_of slots) (length slots) (slots_ascend slots a) (lacks_past slots (length slots) a (omega arith))
    (λ j l. filled_slot (nat_lt j (length slots)) _ (sym (h.members j)) (lt_test j (length slots) l))
  where
    lacks_past : (slots : List (Option NodeRow)) (k : ℕ) → AreSlots 0 slots → length slots ≤ k → has_row number k (rows_of slots) ≡ false
    lacks_past slots k a l =
        let past : false ≡ nat_lt k (length slots) = grind (arith, nat_tests) in
        sym (is_some-find (λ (r : NodeRow). r.number == k) (rows_of slots)) ∙ ap is_some (sym (row_past slots k a past))

-- by what a set of holes answers as its least
pub least_is : (slots : List (Option NodeRow)) (holes : List ℕ) (n : ℕ) → AreSlots 0 slots → AreHoles slots holes → Some n ≡ slice_get holes 0 → n ≡ fresh (rows_of slots)
least_is slots [] n a h e = cc
least_is slots (m ∷ holes) n a h e = same_Some n m e ∙ least_hole slots m holes a h

pub none_is : (slots : List (Option NodeRow)) (holes : List ℕ) → AreSlots 0 slots → AreHoles slots holes → None ≡ slice_get holes 0 → length slots ≡ fresh (rows_of slots)
none_is slots [] a h e = no_hole slots a h
none_is slots (m ∷ holes) a h e = cc

has_new : (row : NodeRow) (rows : List NodeRow) → has_row number row.number rows ≡ false → has_row number row.number (with_row number row rows) ≡ true
has_new row rows free =
    sym (is_some-find (λ (r : NodeRow). r.number == row.number) (with_row number row rows))
    ∙ ap is_some (find-with_row_same number (λ (r : NodeRow). r.number == row.number) row rows (eq_same row.number) free)

same_below : (n k len made : ℕ) → made ≡ max len (k + 1) → k ≤ len → (k == n) ≡ false → nat_lt n len ≡ nat_lt n made
same_below n k len made e l h =
    let apart : k ≡ n → ⊥ = λ s. clash (k == n) (eq_test k n s) h in
    same_tests (nat_lt n len) (nat_lt n made) (λ t. let u : n < len = lt_is n len t in lt_test n made (omega arith)) (λ t. let u : n < made = lt_is n made t in lt_test n len (omega (arith, apart)))

-- a row was put into the slot of its number
pub holes_made : (slots made : List (Option NodeRow)) (holes : List ℕ) (row : NodeRow) → AreHoles slots holes → has_row number row.number (rows_of slots) ≡ false → row.number ≤ length slots → rows_of made ≡ with_row number row (rows_of slots) → length made ≡ max (length slots) (row.number + 1) → AreHoles made (without_number row.number holes)
holes_made slots made holes row h free near rows len =
    record {
      set = set_without row.number holes h.set;
      members = λ n. in_without row.number n holes ∙ at n (row.number == n) refl;
    }
  where
    none : (b : Bool) → (b && false) ≡ false
    none true = refl
    none false = refl

    at : (n : ℕ) (b : Bool) → (row.number == n) ≡ b → (not b && is_in holes n) ≡ is_hole made n
    at n true e =
        let is : row.number ≡ n = eq_is row.number n e in
        let has : has_row number n (rows_of made) ≡ true = ap (has_row number n) rows ∙ subst (λ k. has_row number k (with_row number row (rows_of slots)) ≡ true) is (has_new row (rows_of slots) free) in
        sym (ap (λ b. nat_lt n (length made) && not b) has ∙ none (nat_lt n (length made)))
    at n false e =
        let has : has_row number n (rows_of slots) ≡ has_row number n (rows_of made) = sym (ap (has_row number n) rows ∙ has_row-new_other number row n (rows_of slots) (eq_turned row.number n e)) in
        h.members n ∙ (ap (λ b. nat_lt n (length slots) && not b) has ∙ ap (λ b. b && not (has_row number n (rows_of made))) (same_below n row.number (length slots) (length made) len near e))

-- a row was taken out of its slot
pub holes_gone : (slots made : List (Option NodeRow)) (holes : List ℕ) (k : ℕ) → AreSlots 0 slots → AreHoles slots holes → has_row number k (rows_of slots) ≡ true → rows_of made ≡ without_row number k (rows_of slots) → length made ≡ length slots → AreHoles made (with_number k holes)
holes_gone slots made holes k a h has rows len =
    record {
      set = set_with k holes h.set;
      members = λ n. in_with k n holes ∙ at n (k == n) refl;
    }
  where
    at : (n : ℕ) (b : Bool) → (k == n) ≡ b → (b || is_in holes n) ≡ is_hole made n
    at n true e =
        let is : k ≡ n = eq_is k n e in
        let gone : has_row number k (rows_of made) ≡ false = ap (has_row number k) rows ∙ has_row-without number k (rows_of slots) in
        let within = (filled slots k a has).within in
        let below : nat_lt k (length made) ≡ true = lt_test k (length made) (omega (arith, within, len)) in
        let hole : is_hole made k ≡ true = ap (λ b. nat_lt k (length made) && not b) gone ∙ ap (λ b. b && true) below in
        sym (subst (λ j. is_hole made j ≡ true) is hole)
    at n false e =
        let same : has_row number n (rows_of slots) ≡ has_row number n (rows_of made) = sym (ap (has_row number n) rows ∙ has_row-without_other number k n (rows_of slots) (eq_turned k n e)) in
        h.members n ∙ (ap (λ b. nat_lt n (length slots) && not b) same ∙ ap (λ j. nat_lt n j && not (has_row number n (rows_of made))) (sym len))

-- a row was changed in its slot
pub holes_changed : (slots made : List (Option NodeRow)) (holes : List ℕ) (k : ℕ) (c : NodeRow → NodeRow) → ((r : NodeRow) → (c r).number ≡ r.number) → AreHoles slots holes → rows_of made ≡ with_change number k c (rows_of slots) → length made ≡ length slots → AreHoles made holes
holes_changed slots made holes k c same h rows len =
    record {
      set = h.set;
      members = λ n.
          let has : has_row number n (rows_of slots) ≡ has_row number n (rows_of made) = sym (ap (has_row number n) rows ∙ has_row-change number k c same n (rows_of slots)) in
          h.members n ∙ (ap (λ b. nat_lt n (length slots) && not b) has ∙ ap (λ j. nat_lt n j && not (has_row number n (rows_of made))) (sym len));
    }

-- the holes below a number, as they are read from rows
pub record AreBelow (rows : List NodeRow) (bound : ℕ) (holes : List ℕ) : Type 0 where
  pub set : is_set holes ≡ true
  pub members : (n : ℕ) → is_in holes n ≡ (nat_lt n bound && not (has_row number n rows))

pub holes_below : (slots : List (Option NodeRow)) (bound : ℕ) (holes : List ℕ) → bound ≡ length slots → AreBelow (rows_of slots) bound holes → AreHoles slots holes
holes_below slots bound holes e h = record { set = h.set; members = λ n. h.members n ∙ ap (λ j. nat_lt n j && not (has_row number n (rows_of slots))) e }

none_below : (n : ℕ) → nat_lt n 0 ≡ false
none_below n = grind (arith, nat_tests)

pub no_holes : (rows : List NodeRow) → AreBelow rows 0 []
no_holes rows = record { set = refl; members = λ n. sym (ap (λ b. b && not (has_row number n rows)) (none_below n)) }

one_more : (n k : ℕ) → nat_lt n (k + 1) ≡ ((k == n) || nat_lt n k)
one_more n k = grind (arith, nat_tests)

pub hole_more : (rows : List NodeRow) (k : ℕ) (holes : List ℕ) → AreBelow rows k holes → has_row number k rows ≡ false → AreBelow rows (k + 1) (with_number k holes)
hole_more rows k holes h free =
    record {
      set = set_with k holes h.set;
      members = λ n. in_with k n holes ∙ (ap (λ b. (k == n) || b) (h.members n) ∙ (at n (k == n) refl ∙ ap (λ b. b && not (has_row number n rows)) (sym (one_more n k))));
    }
  where
    at : (n : ℕ) (b : Bool) → (k == n) ≡ b → (b || (nat_lt n k && not (has_row number n rows))) ≡ ((b || nat_lt n k) && not (has_row number n rows))
    at n true e = let is : k ≡ n = eq_is k n e in sym (ap not (subst (λ j. has_row number j rows ≡ false) is free))
    at n false e = refl

pub row_more : (rows : List NodeRow) (k : ℕ) (holes : List ℕ) → AreBelow rows k holes → has_row number k rows ≡ true → AreBelow rows (k + 1) holes
row_more rows k holes h has =
    record {
      set = h.set;
      members = λ n. h.members n ∙ (at n (k == n) refl ∙ ap (λ b. b && not (has_row number n rows)) (sym (one_more n k)));
    }
  where
    none : (b : Bool) → (b && false) ≡ false
    none true = refl
    none false = refl

    at : (n : ℕ) (b : Bool) → (k == n) ≡ b → (nat_lt n k && not (has_row number n rows)) ≡ ((b || nat_lt n k) && not (has_row number n rows))
    at n true e =
        let is : k ≡ n = eq_is k n e in
        let taken : not (has_row number n rows) ≡ false = ap not (subst (λ j. has_row number j rows ≡ true) is has) in
        ap (λ b. nat_lt n k && b) taken ∙ (none (nat_lt n k) ∙ sym taken)
    at n false e = refl
