-- Counters that begin one after another, in the order of their quotas.
use Rattle.std.proofs.Common.{◌≡◌, ℕ, zero, suc, ◌+◌, ◌<◌, true, false, List, [], ◌∷◌, length, take, slice_get, slice_index, Some, refl, ap, sym, ◌∙◌, arith}
use Rattle.std.proofs.lemmas.Option.{same_Some}
use Rattle.std.specs.Prelude.{get_or, map, nat_le, nat_lt, ◌&&◌}
use Rattle.std.specs.List.{list_all}
use Rattle.fsrm_base.specs.Keyed.{has_row, is_ascending}
use Rattle.fsrm_base.proofs.Order.{parts}
use Rattle.fsrm_base.proofs.TestLaws.{both_true, clash, le_test, not_true}
use Rattle.fsrm_model.specs.declared.row.Capacity.{Capacity}
use Rattle.fsrm_model.specs.declared.row.NodeRow.{NodeRow}
use Rattle.fsrm_model.specs.declared.row.QuotaRow.{QuotaRow}
use Rattle.fsrm_model.specs.nodes.Tree.{usage}
use Rattle.fsrm_model.specs.objects.Quota.{counts, folder_of}
use Rattle.fsrm_model.specs.values.Limits.{most_quotas}
use Rattle.fsrm_objects.specs.Kept.{AreSmallQuotas}
use Rattle.quota_usage.specs.Counters.{counted, with_counter}
use Rattle.stored_rows.proofs.Filled.{Fills, fills}
use Rattle.fsrm_parts.specs.Sums.{sums_of}
use Rattle.fsrm_parts.proofs.tables.SumLaws.{sums_more, sums_few, sums_has, sums_with}

got_low : {X : Type 0} (rows : List X) (i : ℕ) (row : X) → slice_get rows i ≡ Some row → i < length rows
got_low [] i row h = cc
got_low (x ∷ rows) zero row h = omega arith
got_low (x ∷ rows) (suc i) row h = omega (arith, got_low rows i row h)

got_is : {X : Type 0} (rows : List X) (i : ℕ) (row : X) → slice_get rows i ≡ Some row → row ≡ get_or rows i row
got_is [] i row h = cc
got_is (x ∷ rows) zero row h = sym (same_Some x row h)
got_is (x ∷ rows) (suc i) row h = got_is rows i row h

pub mapped_at : {X : Type 0} (f : X → ℕ) (rows : List X) (i : ℕ) (row : X) → slice_get rows i ≡ Some row → slice_index (map f rows) i ≡ f row
mapped_at f [] i row h = cc
mapped_at f (x ∷ rows) zero row h = ap f (same_Some x row h)
mapped_at f (x ∷ rows) (suc i) row h = mapped_at f rows i row h

each : {X : Type 0} (rows : List X) → list_all (λ (row : X). true) rows ≡ true
each [] = refl
each (x ∷ rows) = each rows

front_few : {X : Type 0} (rows : List X) (i : ℕ) → i < length rows → length (take i rows) < length rows
front_few [] i low = absurd (omega (arith, low))
front_few (x ∷ rows) zero low = omega arith
front_few (x ∷ rows) (suc i) low = omega (arith, front_few rows i (omega (arith, low)))

front_ascends : {X : Type 0} (key : X → ℕ) (rows : List X) (i : ℕ) → is_ascending key rows ≡ true → is_ascending key (take i rows) ≡ true
front_ascends key rows zero asc = refl
front_ascends key [] (suc i) asc = refl
front_ascends key (x ∷ []) (suc zero) asc = refl
front_ascends key (x ∷ []) (suc (suc i)) asc = refl
front_ascends key (x ∷ y ∷ rows) (suc zero) asc = refl
front_ascends key (x ∷ y ∷ rows) (suc (suc i)) asc =
    let p = parts key x (y ∷ rows) asc in
    both_true (nat_lt (key x) (key y)) (is_ascending key (y ∷ take i rows)) p.above (front_ascends key (y ∷ rows) (suc i) p.rest)

-- the next quota, and the counters of those before it
pub record Begins (K : Capacity) (nodes : List NodeRow) (quotas : List QuotaRow) (i : ℕ) (quota : QuotaRow) : Type 0 where
  pub room : length (sums_of K nodes (take i quotas)) < most_quotas
  pub free : has_row counted quota.folder (sums_of K nodes (take i quotas)) ≡ false
  pub begun : counts quota ≡ true → with_counter (sums_of K nodes (take i quotas)) quota.folder (usage K nodes quota.folder) ≡ sums_of K nodes (take (i + 1) quotas)
  pub passed : counts quota ≡ false → sums_of K nodes (take i quotas) ≡ sums_of K nodes (take (i + 1) quotas)

pub begins : (K : Capacity) (nodes : List NodeRow) (quotas : List QuotaRow) (i : ℕ) (quota : QuotaRow) → AreSmallQuotas quotas → slice_get quotas i ≡ Some quota → Begins K nodes quotas i quota
begins K nodes quotas i quota small at =
    let low = got_low quotas i quota at in
    let listed = both_true (is_ascending folder_of quotas) (nat_le (length quotas) most_quotas) small.held.ascending (le_test (length quotas) most_quotas small.held.few) in
    let f : Fills folder_of (λ (q : QuotaRow). true) (λ (q : QuotaRow). 0) most_quotas quotas i quota =
    fills folder_of (λ (q : QuotaRow). true) (λ (q : QuotaRow). 0) most_quotas quotas i quota (both_true (is_ascending folder_of quotas && nat_le (length quotas) most_quotas) (list_all (λ (q : QuotaRow). true) quotas) listed (each quotas)) low (got_is quotas i quota at) in
    let came = take i quotas in
    record {
      room = omega (arith, sums_few K nodes came, front_few quotas i low, small.held.few);
      free = not_true (has_row counted quota.folder (sums_of K nodes came)) (λ h. clash (has_row folder_of quota.folder came) (sums_has K nodes quota.folder came h) f.free);
      begun = λ c. sym (sums_with K nodes quota came c (front_ascends folder_of quotas i small.held.ascending)) ∙ ap (sums_of K nodes) f.put;
      passed = λ c. sym (sums_more K nodes quota came c) ∙ ap (sums_of K nodes) f.put;
    }
