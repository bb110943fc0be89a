-- Rows that stand in the slots of their numbers.
use Rattle.std.proofs.Common.{◌≡◌, ℕ, suc, ◌+◌, ◌<◌, ◌≤◌, ◌==◌, Bool, true, false, cond, List, [], ◌∷◌, length, slice_get, Option, Some, None, refl, ap, arith}
use Rattle.std.proofs.lemmas.Bool.Decides.{nat_tests}
use Rattle.fsrm_model.specs.declared.row.NodeRow.{NodeRow}
use Rattle.fsrm_base.specs.Keyed.{is_ascending}
use Rattle.fsrm_model.specs.nodes.Tree.{number, node_of}
use Rattle.fsrm_base.proofs.Order.{is_above, join}
use Rattle.fsrm_base.proofs.TestLaws.{eq_is}
use Rattle.node_table.specs.Slots.{AreSlots, rows_of}

-- rows of slots ascend, from the number of the first slot on
pub record Rise (n : ℕ) (rows : List NodeRow) : Type 0 where
  pub ascending : is_ascending number rows ≡ true
  pub above : (row : NodeRow) → (row.number < n) → is_above number row rows ≡ true

rise_more : (n : ℕ) (row : NodeRow) (rows : List NodeRow) → row.number ≡ n → Rise (suc n) rows → Rise n (row ∷ rows)
rise_more n row rows e h =
    record {
      ascending = join number row rows (h.above row (omega arith)) h.ascending;
      above = λ r l. let k : r.number < row.number = omega arith in grind (arith, nat_tests);
    }

pub slots_rise : (n : ℕ) (slots : List (Option NodeRow)) → AreSlots n slots → Rise n (rows_of slots)
slots_rise n [] h = record { ascending = refl; above = λ row l. refl }
slots_rise n (None ∷ slots) h =
    let r = slots_rise (suc n) slots h.1 in
    record { ascending = r.ascending; above = λ row l. r.above row (omega arith) }
slots_rise n (Some row ∷ slots) h = rise_more n row (rows_of slots) h.0 (slots_rise (suc n) slots h.1)

pub slots_ascend : (slots : List (Option NodeRow)) → AreSlots 0 slots → is_ascending number (rows_of slots) ≡ true
slots_ascend slots h = (slots_rise 0 slots h).ascending

-- a node that is found stands in the slot of its number
pub record Slotted (n m : ℕ) (slots : List (Option NodeRow)) (row : NodeRow) : Type 0 where
  pub place : ℕ
  pub is : n + place ≡ m
  pub slot : slice_get slots place ≡ Some (Some row)

slotted_more : (n m : ℕ) (o : Option NodeRow) (slots : List (Option NodeRow)) (row : NodeRow) → Slotted (suc n) m slots row → Slotted n m (o ∷ slots) row
slotted_more n m o slots row s = let is = s.is in record { place = suc s.place; is = omega arith; slot = s.slot }

slotted_at : (n m : ℕ) (first row : NodeRow) (slots : List (Option NodeRow)) (b : Bool) → first.number ≡ n → (first.number == m) ≡ b → cond b (Some first) (node_of (rows_of slots) m) ≡ Some row → (node_of (rows_of slots) m ≡ Some row → Slotted (suc n) m slots row) → Slotted n m (Some first ∷ slots) row
slotted_at n m first row slots true own e h f =
    let is : first.number ≡ m = eq_is _ _ e in
    record { place = 0; is = omega arith; slot = ap Some h }
slotted_at n m first row slots false own e h f = slotted_more n m (Some first) slots row (f h)

slotted_from : (n m : ℕ) (slots : List (Option NodeRow)) (row : NodeRow) → AreSlots n slots → node_of (rows_of slots) m ≡ Some row → Slotted n m slots row
slotted_from n m [] row h f = cc
slotted_from n m (None ∷ slots) row h f = slotted_more n m None slots row (slotted_from (suc n) m slots row h.1 f)
slotted_from n m (Some first ∷ slots) row h f =
    slotted_at n m first row slots (first.number == m) h.0 refl f (slotted_from (suc n) m slots row h.1)

-- there are no more rows than slots
pub rows_fit : (slots : List (Option NodeRow)) → length (rows_of slots) ≤ length slots
rows_fit [] = omega arith
rows_fit (None ∷ slots) = let rest = rows_fit slots in omega (arith, rest)
rows_fit (Some row ∷ slots) = let rest = rows_fit slots in omega (arith, rest)
