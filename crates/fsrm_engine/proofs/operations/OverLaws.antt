-- The refusal by sums over the tree is the one by counters.
use Rattle.std.proofs.Common.{◌≡◌, ℕ, Bool, true, false, cond, ◌&&◌, List, [], Option, Some, None, nat_lt, refl, ap, sym, ◌∙◌}
use Rattle.std.specs.Prelude.{Result, Ok, Err, OnOk, option_map, unwrap_or}
use Rattle.std.specs.Option.{option_map_or}
use Rattle.std.specs.List.{AllByRecursion, list_all}
use Rattle.fsrm_model.specs.declared.command.Refusal.TheVariants.{QuotaExceeded}
use Rattle.fsrm_model.specs.declared.row.Capacity.{Capacity}
use Rattle.fsrm_model.specs.declared.row.NodeRow.{NodeRow}
use Rattle.fsrm_model.specs.declared.row.QuotaRow.{QuotaRow}
use Rattle.fsrm_model.specs.declared.row.Rows.{Rows}
use Rattle.fsrm_base.specs.Keyed.{row_of, is_ascending}
use Rattle.fsrm_model.specs.objects.Quota.{folder_of, counts, refuses, over, deepest, exceeded}
use Rattle.fsrm_model.specs.nodes.Tree.{is_under, usage}
use Rattle.fsrm_model.specs.store.Valid.{AreQuotas}
use Rattle.fsrm_base.proofs.TestLaws.{both}
use Rattle.fsrm_model.proofs.valid.ValidLaws.{folder_has}
use Rattle.quota_usage.specs.declared.change.Change.{Change}
use Rattle.quota_usage.specs.declared.change.Counter.{Counter}
use Rattle.quota_usage.specs.declared.change.Exceeded.{Exceeded}
use Rattle.quota_usage.specs.Charge.{is_above, charged, refuses_change, over_by, told_of, exceeded_by}
use Rattle.quota_usage.specs.Counters.{used_in}
use Rattle.fsrm_parts.specs.Faults.{exceeded_refusal}
use Rattle.fsrm_parts.specs.Sums.{sums_of}
use Rattle.fsrm_base.proofs.RowLaws.{each, each_found, filter_same, find_same, all_same, all_filter, find_has}
use Rattle.fsrm_parts.proofs.tables.SumLaws.{used_found}
use Rattle.fsrm_engine.proofs.operations.ChangeLaws.{Changes}
use Rattle.quota_usage.proofs.Deepest.{rises_at}

-- whether the sums refuse by a quota
abbrev is_over : Capacity → List NodeRow → List NodeRow → QuotaRow → Bool
is_over K nodes new q = refuses q (usage K nodes q.folder) (usage K new q.folder)

-- a quota's test by its counter is that by sums
test_case : (K : Capacity) (nodes new : List NodeRow) (change : Change) (q : QuotaRow) (u u' : ℕ) (b : Bool) → counts q ≡ b → u' ≡ charged nodes change q.folder u → option_map_or (λ n. refuses q n (charged nodes change q.folder n)) (cond b (Some u) None) false ≡ refuses q u u'
test_case K nodes new change q u u' true e h = ap (refuses q u) (sym h)
test_case K nodes new change q u u' false e h = sym (ap (λ b. (b && q.enforce) && (nat_lt u u' && nat_lt q.limit u')) e)

test_same : (K : Capacity) (nodes new : List NodeRow) (quotas : List QuotaRow) (change : Change) → is_ascending folder_of quotas ≡ true → Changes K nodes new quotas change → (q : QuotaRow) → row_of folder_of (folder_of q) quotas ≡ Some q → refuses_change nodes (sums_of K nodes quotas) change q ≡ is_over K nodes new q
test_same K nodes new quotas change asc c q found =
    ap (λ o. option_map_or (λ n. refuses q n (charged nodes change q.folder n)) o false) (used_found K nodes quotas q.folder q asc found)
    ∙ test_case K nodes new change q (usage K nodes q.folder) (usage K new q.folder) (counts q) refl (c.after q.folder q found)

-- the same quotas refuse
pub over_same : (K : Capacity) (R : Rows) (new : List NodeRow) (change : Change) → is_ascending folder_of R.quotas ≡ true → Changes K R.nodes new R.quotas change → over_by R.nodes R.quotas (sums_of K R.nodes R.quotas) change ≡ over K R new
over_same K R new change asc c =
    filter_same (refuses_change R.nodes (sums_of K R.nodes R.quotas) change) (is_over K R.nodes new) R.quotas
    (each_found folder_of _ R.quotas asc (λ q found. test_same K R.nodes new R.quotas change asc c q found))

-- what a quota has that refuses
record Refusing (K : Capacity) (nodes new : List NodeRow) (quotas : List QuotaRow) (change : Change) (q : QuotaRow) : Type 0 where
  up : (f : ℕ) → is_under new f q.folder ≡ is_under nodes f q.folder
  tells : exceeded_refusal (told_of nodes (sums_of K nodes quotas) change q) ≡ QuotaExceeded q.folder (usage K new q.folder) q.limit

refusing : (K : Capacity) (nodes new : List NodeRow) (quotas : List QuotaRow) (change : Change) → AreQuotas nodes quotas → Changes K nodes new quotas change → (q : QuotaRow) → row_of folder_of (folder_of q) quotas ≡ Some q → is_over K nodes new q ≡ true → Refusing K nodes new quotas change q
refusing K nodes new quotas change qs c q found is =
    let u = usage K nodes q.folder in
    let after : usage K new q.folder ≡ charged nodes change q.folder u = c.after q.folder q found in
    let parts = both (counts q && q.enforce) (nat_lt u (usage K new q.folder) && nat_lt q.limit (usage K new q.folder)) is in
    let counting : counts q ≡ true = (both (counts q) q.enforce parts.0).0 in
    let rises : nat_lt u (charged nodes change q.folder u) ≡ true = ap (nat_lt u) (sym after) ∙ (both (nat_lt u (usage K new q.folder)) (nat_lt q.limit (usage K new q.folder)) parts.1).0 in
    let above : is_above nodes change.to q.folder ≡ true = rises_at u (cond (is_above nodes change.from q.folder) change.minus 0) change.plus (is_above nodes change.to q.folder) rises in
    let used : used_in (sums_of K nodes quotas) q.folder ≡ Some u = used_found K nodes quotas q.folder q qs.ascending found ∙ ap (λ b. cond b (Some u) None) counting in
    record {
      up = λ f. c.up_same f q.folder (folder_has nodes q.folder (qs.folders q.folder q found)) above;
      tells = ap (λ o. QuotaExceeded q.folder (charged nodes change q.folder (unwrap_or o 0)) q.limit) used ∙ ap (λ n. QuotaExceeded q.folder n q.limit) (sym after);
    }

-- the deepest is the same, and tells the same
same_deepest : (K : Capacity) (nodes new : List NodeRow) (quotas : List QuotaRow) (change : Change) (xs : List QuotaRow) → AllByRecursion (Refusing K nodes new quotas change) xs → deepest new xs ≡ deepest nodes xs
same_deepest K nodes new quotas change xs h =
    find_same (λ q. list_all (λ above. is_under new above.folder q.folder) xs) (λ q. list_all (λ above. is_under nodes above.folder q.folder) xs) xs
    (each xs (λ q r. all_same (λ above. is_under new above.folder q.folder) (λ above. is_under nodes above.folder q.folder) (λ above. r.up above.folder) xs) h)

same_told : (K : Capacity) (nodes new : List NodeRow) (quotas : List QuotaRow) (change : Change) (xs : List QuotaRow) (o : Option QuotaRow) → AllByRecursion (Refusing K nodes new quotas change) xs → deepest nodes xs ≡ o → option_map (λ q. QuotaExceeded q.folder (usage K new q.folder) q.limit) o ≡ option_map exceeded_refusal (option_map (told_of nodes (sums_of K nodes quotas) change) o)
same_told K nodes new quotas change xs None h e = refl
same_told K nodes new quotas change xs (Some q) h e =
    ap Some (sym (find_has (λ q. list_all (λ above. is_under nodes above.folder q.folder) xs) (Refusing K nodes new quotas change) xs q h e).tells)

-- the refusal by sums is the one by counters
pub exceeded_is : (K : Capacity) (R : Rows) (new : List NodeRow) (change : Change) (counters : List Counter) → counters ≡ sums_of K R.nodes R.quotas → AreQuotas R.nodes R.quotas → Changes K R.nodes new R.quotas change → exceeded K R new ≡ option_map exceeded_refusal (exceeded_by R.nodes R.quotas counters change)
exceeded_is K R new change counters sums qs c =
    let xs = over K R new in
    let all : AllByRecursion (Refusing K R.nodes new R.quotas change) xs =
    all_filter (is_over K R.nodes new) (Refusing K R.nodes new R.quotas change) R.quotas
    (each_found folder_of _ R.quotas qs.ascending (λ q found is. refusing K R.nodes new R.quotas change qs c q found is)) in
    ap (option_map (λ q. QuotaExceeded q.folder (usage K new q.folder) q.limit)) (same_deepest K R.nodes new R.quotas change xs all)
    ∙ (same_told K R.nodes new R.quotas change xs (deepest R.nodes xs) all refl
    ∙ (ap (λ ys. option_map exceeded_refusal (option_map (told_of R.nodes (sums_of K R.nodes R.quotas) change) (deepest R.nodes ys))) (sym (over_same K R new change qs.ascending c))
    ∙ ap (λ cs. option_map exceeded_refusal (exceeded_by R.nodes R.quotas cs change)) (sym sums)))

-- what no quota refuses isn't refused
pub none_over : (nodes : List NodeRow) (quotas : List QuotaRow) (counters : List Counter) (change : Change) (r : Result (Unit {0}) Exceeded) → OnOk r (over_by nodes quotas counters change ≡ []) → OnOk r (exceeded_by nodes quotas counters change ≡ None)
none_over nodes quotas counters change (Ok u) h = ap (λ over. option_map (told_of nodes counters change) (deepest nodes over)) h
none_over nodes quotas counters change (Err e) h = tt
