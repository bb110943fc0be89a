-- Rows in the slots of their numbers.
use Rattle.std.proofs.Common.{◌≡◌, ℕ, zero, suc, ◌+◌, ◌<◌, ◌≤◌, ◌==◌, true, false, cond, not, List, [], ◌∷◌, length, refl, sym, ◌∙◌, ap, subst, inl, inr, arith, nat_lt, Some, None, Option}
use Rattle.std.proofs.lemmas.Bool.{cases_lt}
use Rattle.std.proofs.lemmas.Bool.Decides.{nat_tests}
use Rattle.std.proofs.lemmas.List.{get_or_past}
use Rattle.std.proofs.lemmas.Option.{same_Some}
use Rattle.std.specs.Prelude.{is_some, option_map}
use Rattle.fsrm_model.specs.declared.row.NodeRow.{NodeRow}
use Rattle.fsrm_base.specs.Keyed.{has_row, with_row, with_change, without_row}
use Rattle.fsrm_model.specs.nodes.Tree.{number, node_of}
use Rattle.fsrm_base.proofs.EditedRows.{change_absent, without_absent}
use Rattle.fsrm_base.proofs.Look.{is_some-find, found_key, has_found}
use Rattle.fsrm_base.proofs.TestLaws.{lt_test, eq_test, eq_below, eq_above, not_lt}
use Rattle.node_table.specs.Slots.{rows_of, IsSlot, AreSlots, is_taken, slot_at, with_change_at, with_slot}
use Rattle.node_table.proofs.PlaceLaws.{length-with_at}

-- slots have no number below that of the first
pub none_below : (m k : ℕ) (slots : List (Option NodeRow)) → AreSlots m slots → k < m → node_of (rows_of slots) k ≡ None
none_below m k [] a h = refl
none_below m k (None ∷ slots) a h = none_below (suc m) k slots a.1 (omega arith)
none_below m k (Some row ∷ slots) a h =
    let is : row.number ≡ m = a.0 in
    let apart : (row.number == k) ≡ false = eq_above row.number k (omega arith) in
    ap (λ b. cond b (Some row) (node_of (rows_of slots) k)) apart ∙ none_below (suc m) k slots a.1 (omega arith)

lacks_below : (m k : ℕ) (slots : List (Option NodeRow)) → AreSlots m slots → k < m → has_row number k (rows_of slots) ≡ false
lacks_below m k slots a h = sym (is_some-find (λ (r : NodeRow). r.number == k) (rows_of slots)) ∙ ap is_some (none_below m k slots a h)

-- the row of a number is that of its slot
row_from : (m k : ℕ) (slots : List (Option NodeRow)) → AreSlots m slots → node_of (rows_of slots) (m + k) ≡ slot_at slots k
row_from m zero [] a = refl
row_from m (suc k) [] a = refl
row_from m zero (None ∷ slots) a = none_below (suc m) (m + 0) slots a.1 (omega arith)
row_from m zero (Some row ∷ slots) a =
    let is : row.number ≡ m = a.0 in
    let same : (row.number == m + 0) ≡ true = eq_test row.number (m + 0) (omega arith) in
    ap (λ b. cond b (Some row) (node_of (rows_of slots) (m + 0))) same
row_from m (suc k) (None ∷ slots) a =
    let i : m + suc k ≡ suc m + k = omega arith in
    ap (node_of (rows_of slots)) i ∙ row_from (suc m) k slots a.1
row_from m (suc k) (Some row ∷ slots) a =
    let i : m + suc k ≡ suc m + k = omega arith in
    let is : row.number ≡ m = a.0 in
    let apart : (row.number == m + suc k) ≡ false = eq_below row.number (m + suc k) (omega arith) in
    ap (λ b. cond b (Some row) (node_of (rows_of slots) (m + suc k))) apart ∙ (ap (node_of (rows_of slots)) i ∙ row_from (suc m) k slots a.1)

pub row_is : (k : ℕ) (slots : List (Option NodeRow)) → AreSlots 0 slots → node_of (rows_of slots) k ≡ slot_at slots k
row_is k slots a = let i : 0 + k ≡ k = omega arith in ap (node_of (rows_of slots)) (sym i) ∙ row_from 0 k slots a

-- whether there is a row of a number
pub there_is : (k : ℕ) (slots : List (Option NodeRow)) → AreSlots 0 slots → is_taken slots k ≡ has_row number k (rows_of slots)
there_is k slots a = sym (ap is_some (row_is k slots a)) ∙ is_some-find (λ (r : NodeRow). r.number == k) (rows_of slots)

pub within_slots : (k : ℕ) (slots : List (Option NodeRow)) → is_taken slots k ≡ true → k < length slots
within_slots k slots taken =
    elim (cases_lt k (length slots)) [
      | inl within ↦ within
      | inr past ↦ absurd (let clash : false ≡ true = sym (ap is_some (get_or_past slots k None past)) ∙ taken in cc clash)
    ]

none_if : (o : Option NodeRow) → is_some o ≡ false → o ≡ None
none_if None h = refl
none_if (Some row) h = absurd (cc h)

pub nothing_in : (k : ℕ) (slots : List (Option NodeRow)) → AreSlots 0 slots → has_row number k (rows_of slots) ≡ false → slot_at slots k ≡ None
nothing_in k slots a free = none_if (slot_at slots k) (there_is k slots a ∙ free)

-- a slot with a row
pub record Filled (slots : List (Option NodeRow)) (k : ℕ) : Type 0 where
  pub row : NodeRow
  pub at : slot_at slots k ≡ Some row
  pub within : k < length slots
  pub number_is : row.number ≡ k

-- the slot of a number that there is
pub filled : (slots : List (Option NodeRow)) (k : ℕ) → AreSlots 0 slots → has_row number k (rows_of slots) ≡ true → Filled slots k
filled slots k a h =
    let f = has_found number k (rows_of slots) h in
    record { row = f.row; at = sym (row_is k slots a) ∙ f.is; within = within_slots k slots (there_is k slots a ∙ h); number_is = found_key number k (rows_of slots) f.row f.is }

ge_read : (m n : ℕ) → false ≡ nat_lt m n → n ≤ m
ge_read m n h = grind (arith, nat_tests)

pub row_past : (slots : List (Option NodeRow)) (k : ℕ) → AreSlots 0 slots → false ≡ nat_lt k (length slots) → None ≡ node_of (rows_of slots) k
row_past slots k a l = sym (row_is k slots a ∙ get_or_past slots k None (ge_read k (length slots) l))

-- ---- one slot is another
with_from : (m k : ℕ) (slots : List (Option NodeRow)) (slot : Option NodeRow) → AreSlots m slots → IsSlot (m + k) slot → AreSlots m (with_slot slots k slot)
with_from m zero [] slot a h = let i : m + 0 ≡ m = omega arith in (subst (λ n. IsSlot n slot) i h, tt)
with_from m (suc k) [] slot a h = let i : m + suc k ≡ suc m + k = omega arith in (tt, with_from (suc m) k [] slot tt (subst (λ n. IsSlot n slot) i h))
with_from m zero (old ∷ slots) slot a h = let i : m + 0 ≡ m = omega arith in (subst (λ n. IsSlot n slot) i h, a.1)
with_from m (suc k) (old ∷ slots) slot a h = let i : m + suc k ≡ suc m + k = omega arith in (a.0, with_from (suc m) k slots slot a.1 (subst (λ n. IsSlot n slot) i h))

pub slots_with : (k : ℕ) (slots : List (Option NodeRow)) (slot : Option NodeRow) → AreSlots 0 slots → IsSlot k slot → AreSlots 0 (with_slot slots k slot)
slots_with k slots slot a h = let i : 0 + k ≡ k = omega arith in with_from 0 k slots slot a (subst (λ n. IsSlot n slot) (sym i) h)

pub length_kept : (k : ℕ) (slots : List (Option NodeRow)) (slot : Option NodeRow) → k < length slots → length (with_slot slots k slot) ≡ length slots
length_kept k slots slot within = omega (arith, within, length-with_at {X = Option NodeRow} None slots k slot)

-- a row goes before those of greater numbers
first_row : (m : ℕ) (slots : List (Option NodeRow)) (row : NodeRow) → AreSlots m slots → row.number < m → with_row number row (rows_of slots) ≡ row ∷ rows_of slots
first_row m [] row a h = refl
first_row m (None ∷ slots) row a h = first_row (suc m) slots row a.1 (omega arith)
first_row m (Some r ∷ slots) row a h =
    let is : r.number ≡ m = a.0 in
    ap (λ b. cond b (row ∷ r ∷ rows_of slots) (r ∷ with_row number row (rows_of slots))) (lt_test row.number r.number (omega arith))

-- and after those of lesser numbers
later_row : (m : ℕ) (r : NodeRow) (slots : List (Option NodeRow)) (row : NodeRow) → r.number ≡ m → m < row.number → with_row number row (r ∷ rows_of slots) ≡ r ∷ with_row number row (rows_of slots)
later_row m r slots row e h = ap (λ b. cond b (row ∷ r ∷ rows_of slots) (r ∷ with_row number row (rows_of slots))) (not_lt row.number r.number (omega arith))

put_from : (m k : ℕ) (slots : List (Option NodeRow)) (row : NodeRow) → AreSlots m slots → row.number ≡ m + k → slot_at slots k ≡ None → rows_of (with_slot slots k (Some row)) ≡ with_row number row (rows_of slots)
put_from m zero [] row a e h = refl
put_from m (suc k) [] row a e h = let i : m + suc k ≡ suc m + k = omega arith in put_from (suc m) k [] row tt (e ∙ i) refl
put_from m zero (None ∷ slots) row a e h = sym (first_row (suc m) slots row a.1 (omega (arith, e)))
put_from m zero (Some r ∷ slots) row a e h = cc
put_from m (suc k) (None ∷ slots) row a e h = let i : m + suc k ≡ suc m + k = omega arith in put_from (suc m) k slots row a.1 (e ∙ i) h
put_from m (suc k) (Some r ∷ slots) row a e h =
    let i : m + suc k ≡ suc m + k = omega arith in
    ap (λ rows. r ∷ rows) (put_from (suc m) k slots row a.1 (e ∙ i) h) ∙ sym (later_row m r slots row a.0 (omega (arith, e)))

-- rows of slots with an empty one filled
pub rows_put : (slots : List (Option NodeRow)) (row : NodeRow) → AreSlots 0 slots → slot_at slots row.number ≡ None → rows_of (with_slot slots row.number (Some row)) ≡ with_row number row (rows_of slots)
rows_put slots row a h = let i : row.number ≡ 0 + row.number = omega arith in put_from 0 row.number slots row a i h

gone_from : (m k : ℕ) (slots : List (Option NodeRow)) → AreSlots m slots → rows_of (with_slot slots k None) ≡ without_row number (m + k) (rows_of slots)
gone_from m zero [] a = refl
gone_from m (suc k) [] a = gone_from (suc m) k [] tt
gone_from m zero (None ∷ slots) a = sym (without_absent number (m + 0) (rows_of slots) (lacks_below (suc m) (m + 0) slots a.1 (omega arith)))
gone_from m zero (Some r ∷ slots) a =
    let is : r.number ≡ m = a.0 in
    sym (ap (λ b. cond (not b) (r ∷ without_row number (m + 0) (rows_of slots)) (without_row number (m + 0) (rows_of slots))) (eq_test r.number (m + 0) (omega arith))
    ∙ without_absent number (m + 0) (rows_of slots) (lacks_below (suc m) (m + 0) slots a.1 (omega arith)))
gone_from m (suc k) (None ∷ slots) a =
    let i : suc m + k ≡ m + suc k = omega arith in
    gone_from (suc m) k slots a.1 ∙ ap (λ n. without_row number n (rows_of slots)) i
gone_from m (suc k) (Some r ∷ slots) a =
    let i : suc m + k ≡ m + suc k = omega arith in
    let is : r.number ≡ m = a.0 in
    ap (λ rows. r ∷ rows) (gone_from (suc m) k slots a.1 ∙ ap (λ n. without_row number n (rows_of slots)) i)
    ∙ sym (ap (λ b. cond (not b) (r ∷ without_row number (m + suc k) (rows_of slots)) (without_row number (m + suc k) (rows_of slots))) (eq_below r.number (m + suc k) (omega arith)))

-- rows of slots with one emptied
pub rows_gone : (k : ℕ) (slots : List (Option NodeRow)) → AreSlots 0 slots → rows_of (with_slot slots k None) ≡ without_row number k (rows_of slots)
rows_gone k slots a = let i : 0 + k ≡ k = omega arith in gone_from 0 k slots a ∙ ap (λ n. without_row number n (rows_of slots)) i

changed_from : (m k : ℕ) (slots : List (Option NodeRow)) (c : NodeRow → NodeRow) (row : NodeRow) → AreSlots m slots → slot_at slots k ≡ Some row → rows_of (with_slot slots k (Some (c row))) ≡ with_change number (m + k) c (rows_of slots)
changed_from m zero [] c row a h = cc
changed_from m (suc k) [] c row a h = cc
changed_from m zero (None ∷ slots) c row a h = cc
changed_from m zero (Some r ∷ slots) c row a h =
    let is : r.number ≡ m = a.0 in
    ap (λ x. c x ∷ rows_of slots) (sym (same_Some r row h))
    ∙ sym (ap (λ b. cond b (c r) r ∷ with_change number (m + 0) c (rows_of slots)) (eq_test r.number (m + 0) (omega arith))
    ∙ ap (λ rows. c r ∷ rows) (change_absent number (m + 0) c (rows_of slots) (lacks_below (suc m) (m + 0) slots a.1 (omega arith))))
changed_from m (suc k) (None ∷ slots) c row a h =
    let i : suc m + k ≡ m + suc k = omega arith in
    changed_from (suc m) k slots c row a.1 h ∙ ap (λ n. with_change number n c (rows_of slots)) i
changed_from m (suc k) (Some r ∷ slots) c row a h =
    let i : suc m + k ≡ m + suc k = omega arith in
    let is : r.number ≡ m = a.0 in
    ap (λ rows. r ∷ rows) (changed_from (suc m) k slots c row a.1 h ∙ ap (λ n. with_change number n c (rows_of slots)) i)
    ∙ sym (ap (λ b. cond b (c r) r ∷ with_change number (m + suc k) c (rows_of slots)) (eq_below r.number (m + suc k) (omega arith)))

-- slots with a row changed, but for its number
pub record IsChanged (slots : List (Option NodeRow)) (k : ℕ) (c : NodeRow → NodeRow) : Type 0 where
  pub slots_are : AreSlots 0 (with_change_at slots k c)
  pub rows_are : rows_of (with_change_at slots k c) ≡ with_change number k c (rows_of slots)
  pub size : length (with_change_at slots k c) ≡ length slots

pub changed : (slots : List (Option NodeRow)) (k : ℕ) (c : NodeRow → NodeRow) → AreSlots 0 slots → has_row number k (rows_of slots) ≡ true → ((r : NodeRow) → (c r).number ≡ r.number) → IsChanged slots k c
changed slots k c a has keeps =
    let f = filled slots k a has in
    let at : with_change_at slots k c ≡ with_slot slots k (Some (c f.row)) = ap (λ (o : Option NodeRow). with_slot slots k (option_map c o)) f.at in
    let i : 0 + k ≡ k = omega arith in
    record {
      slots_are = subst (AreSlots 0) (sym at) (slots_with k slots (Some (c f.row)) a (keeps f.row ∙ f.number_is));
      rows_are = ap rows_of at ∙ (changed_from 0 k slots c f.row a f.at ∙ ap (λ n. with_change number n c (rows_of slots)) i);
      size = ap length at ∙ length_kept k slots (Some (c f.row)) f.within;
    }
