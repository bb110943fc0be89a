-- What is noted of numbers goes on telling where they are, if one comes or goes.
use Rattle.std.proofs.Common.{◌≡◌, ℕ, suc, ◌+◌, ◌<◌, ◌≤◌, ◌==◌, nat_lt, cond, false, inl, inr, List, Some, drop, length, get_or, set, slice_get, refl, sym, ◌∙◌, ap, subst, arith}
use Rattle.std.proofs.lemmas.Bool.{cases_eq}
use Rattle.std.proofs.lemmas.Grind.{get_or-set_at}
use Rattle.std.proofs.lemmas.List.{at_drop_more, get_or-set_other, length-set}
use Rattle.std.proofs.lemmas.Option.{get_or_from_slice_get, slice_get_within}
use Rattle.fsrm_base.specs.Keyed.{has_row, least_free_from, row_of, with_row, without_row}
use Rattle.fsrm_base.proofs.EditedRows.{find-with_row_same}
use Rattle.fsrm_base.proofs.EditedTests.{list_all-with_row, list_all-filter}
use Rattle.fsrm_base.proofs.Look.{row_of-new_other, row_of-without, has_row-without}
use Rattle.fsrm_base.proofs.Order.{ascending-with_row, ascending-filter, length-with_row}
use Rattle.fsrm_base.proofs.TestLaws.{eq_same, is_apart, lt_test}
use Rattle.row_table.specs.declared.index.Entry.{Entry}
use Rattle.row_table.specs.Indexed.{AreGrown, AreIndexed, Indexed, IsIndex, noted, number_of}
use Rattle.row_table.proofs.HeldLaws.{less_length, none_found}
use Rattle.row_table.proofs.PoolLaws.{set_default}

abbrev pub indexed : List Entry → ℕ → Indexed
indexed entries room = record { entries = entries; room = room }

-- if only what is noted of one number changes, and only its entry
told_of : (k note : ℕ) (old new : List Entry) (notes : List ℕ) → ((n : ℕ) → (n == k) ≡ false → row_of number_of n new ≡ row_of number_of n old) → (n : ℕ) → (n ≡ k → get_or (set notes k note) k 65535 ≡ noted (row_of number_of k new)) → get_or notes n 65535 ≡ noted (row_of number_of n old) → get_or (set notes k note) n 65535 ≡ noted (row_of number_of n new)
told_of k note old new notes others n own told =
    elim (cases_eq n k) [
      | inl same ↦ subst (λ m. get_or (set notes k note) m 65535 ≡ noted (row_of number_of m new)) (sym same) (own same)
      | inr other ↦ get_or-set_other notes k n note 65535 other ∙ (told ∙ sym (ap noted (others n (is_apart n k other))))
    ]

-- entries that are held, if one comes or goes
pub held_more : (it : Indexed) (e : Entry) → AreIndexed it → has_row number_of e.number it.entries ≡ false → length it.entries < it.room → e.slot < 65535 → AreIndexed (record it { entries = with_row number_of e it.entries })
held_more it e held free room small =
    let longer : length (with_row number_of e it.entries) ≡ suc (length it.entries) = length-with_row number_of e it.entries in
    record {
      ascending = ascending-with_row number_of e it.entries free held.ascending;
      small = list_all-with_row number_of (λ entry. nat_lt entry.slot 65535) e it.entries (lt_test e.slot 65535 small) held.small;
      few = omega arith;
      room_small = held.room_small;
    }

pub held_less : (it : Indexed) (n : ℕ) → AreIndexed it → AreIndexed (record it { entries = without_row number_of n it.entries })
held_less it n held = record {
  ascending = ascending-filter number_of _ it.entries held.ascending;
  small = list_all-filter (λ entry. nat_lt entry.slot 65535) _ it.entries held.small;
  few = omega (arith, less_length number_of n it.entries, held.few);
  room_small = held.room_small;
}

-- what an index keeps
pub index_more : (it : Indexed) (notes grown : List ℕ) (bound lowered : ℕ) (e : Entry) → IsIndex it notes bound → AreGrown notes grown → (e.number < lowered → e.number < length grown) → length grown ≤ lowered → lowered ≤ bound → has_row number_of e.number it.entries ≡ false → length it.entries < it.room → e.slot < 65535 → IsIndex (record it { entries = with_row number_of e it.entries }) (set grown e.number e.slot) lowered
index_more it notes grown bound lowered e is g reach within most free room small =
    let found = find-with_row_same number_of (λ r. r.number == e.number) e it.entries (eq_same e.number) free in
    record {
      held = held_more it e is.held free room small;
      within = omega (arith, length-set grown e.number e.slot, within);
      told = λ n below. told_of e.number e.slot it.entries (with_row number_of e it.entries) grown (λ m other. row_of-new_other number_of e m it.entries other) n
          (λ same. get_or-set_at grown e.number e.number e.slot 65535 refl (reach (omega (arith, same, below))) ∙ sym (ap noted found))
          (g.kept n ∙ is.told n (omega (arith, below, most)));
    }

pub index_less : (it : Indexed) (notes : List ℕ) (bound n : ℕ) → IsIndex it notes bound → IsIndex (record it { entries = without_row number_of n it.entries }) (set notes n 65535) bound
index_less it notes bound n is =
    let gone = none_found number_of (without_row number_of n it.entries) n (has_row-without number_of n it.entries) in
    record {
      held = held_less it n is.held;
      within = omega (arith, length-set notes n 65535, is.within);
      told = λ m below. told_of n 65535 it.entries (without_row number_of n it.entries) notes (λ k other. row_of-without number_of n k it.entries other) m (λ same. set_default notes n 65535 ∙ sym (ap noted gone)) (is.told m below);
    }

-- the least number from one on that none has, told by the entry at a place
pub least_at : (es : List Entry) (i n : ℕ) (e : Entry) → slice_get es i ≡ Some e → least_free_from number_of n (drop i es) ≡ cond (e.number == n) (least_free_from number_of (n + 1) (drop (i + 1) es)) n
least_at es i n e h =
    at_drop_more (least_free_from number_of n) es i e (slice_get_within es i e h)
    ∙ ap (λ (x : Entry). cond (x.number == n) (least_free_from number_of (n + 1) (drop (i + 1) es)) n) (get_or_from_slice_get es i e e h)
