-- The run of an action that is named by its number: what it asks of the tables, and what it leaves.
use Rattle.std.proofs.Common.{◌≡◌, ℕ, ◌<◌, true, ◌&&◌, not, List, [], ◌∷◌, ◌++◌, length, Some, refl, sym, ◌∙◌, ap, subst, arith, is_some, nat_le, slice_get, option_map}
use Rattle.std.proofs.lemmas.List.{length-map}
use Rattle.std.proofs.lemmas.Option.{same_Some, slice_get-map, slice_get_within}
use Rattle.std.specs.Prelude.{map}
use Rattle.std.specs.List.{list_all}
use Rattle.std.specs.Option.{option_map_or}
use Rattle.fsrm_base.specs.Keyed.{is_ascending}
use Rattle.fsrm_base.specs.Numbers.{with_number}
use Rattle.fsrm_base.proofs.Order.{ascending-map}
use Rattle.fsrm_base.proofs.SortedRows.{row_at}
use Rattle.fsrm_base.proofs.TestLaws.{both, both_true, le_test}
use Rattle.fsrm_model.specs.declared.command.Act.{Act}
use Rattle.fsrm_model.specs.declared.row.Action.{Action}
use Rattle.fsrm_model.specs.declared.row.QuotaRow.{QuotaRow}
use Rattle.fsrm_model.specs.declared.row.Threshold.{Threshold}
use Rattle.fsrm_model.specs.objects.Acts.{folder_in, percent_in}
use Rattle.fsrm_model.specs.objects.Quota.{folder_of}
use Rattle.fsrm_model.specs.objects.Runs.{run_quota, run_threshold, last_entries}
use Rattle.fsrm_model.specs.objects.Thresholds.{percent_of, actions_at, are_too_many}
use Rattle.fsrm_model.proofs.thresholds.KeptLaws.{many_run}
use Rattle.fsrm_objects.specs.Tables.{Tables, HasAction, with_run}
use Rattle.thresholds.specs.Marked.{Marked, act_at, waiting, are_there, quota_place, threshold_place, action_place}
use Rattle.thresholds.specs.Settled.{Settles, are_orderly, has_orderly_lists, ran_in}
use Rattle.thresholds.proofs.Decoded.{Found, found, found_act, found_is}
use Rattle.thresholds.proofs.OrderLaws.{Orderly, orderly, percents_ascend}
use Rattle.thresholds.proofs.RunLaws.{quotas_one}
use Rattle.thresholds.proofs.SettleLaws.{settles_one}

-- ---- one action
module _ (tables : Tables) (number : ℕ) (act : Act) (orderly_are : are_orderly tables.quotas ≡ true) (is : act_at tables.quotas number ≡ Some act) where
  own : Found tables.quotas number
  own = found tables.quotas number (ap is_some is)

  own_is : found_act own ≡ act
  own_is = same_Some (found_act own) act (sym (found_is tables.quotas number own) ∙ is)

  lists : Orderly tables.quotas
  lists = orderly tables.quotas orderly_are

  percents : is_ascending percent_of own.quota.thresholds ≡ true
  percents = percents_ascend tables.quotas (quota_place number) own.quota lists own.quota_is

  -- there is room for its number
  pub has_number : number < 524288
  has_number = omega (arith, slice_get_within tables.quotas (quota_place number) own.quota own.quota_is, lists.few)

  has_action : HasAction tables (folder_in act.subject) (percent_in act.subject) act.place
  has_action =
      let at_percent : actions_at own.quota.thresholds own.threshold.percent ≡ own.threshold.actions = ap (λ o. option_map_or (λ (t : Threshold). t.actions) o []) (row_at percent_of own.threshold.percent own.quota.thresholds (threshold_place number) own.threshold percents own.threshold_is refl) in
      subst (λ (a : Act). HasAction tables (folder_in a.subject) (percent_in a.subject) a.place) own_is (record {
        quota = own.quota;
        is_there = row_at folder_of own.quota.folder tables.quotas (quota_place number) own.quota lists.ascending own.quota_is refl;
        ascending = percents;
        within = subst (λ (actions : List Action). action_place number < length actions) (sym at_percent) (slice_get_within own.threshold.actions (action_place number) own.action own.action_is);
      })

  pub may_run : (folder percent : ℕ) → folder ≡ folder_in act.subject → percent ≡ percent_in act.subject → HasAction tables folder percent act.place
  may_run folder percent f p =
      subst (λ n. HasAction tables n percent act.place) (sym f) (subst (λ n. HasAction tables (folder_in act.subject) n act.place) (sym p) has_action)

  left_by_run : (moment : ℕ) → with_run tables (folder_in act.subject) (percent_in act.subject) act.place moment ≡ ran_in moment (act ∷ []) tables
  left_by_run moment =
      subst (λ (a : Act). with_run tables (folder_in a.subject) (percent_in a.subject) a.place moment ≡ ran_in moment (a ∷ []) tables) own_is
      (ap (λ quotas. record tables { quotas = quotas }) (quotas_one moment own.quota.folder own.threshold.percent (action_place number) own.action.kind tables.quotas))

  -- it is settled
  pub ran_one : (old new : Marked) (after : Tables) (moment folder percent : ℕ) → are_there tables.quotas old.numbers ≡ true → folder ≡ folder_in act.subject → percent ≡ percent_in act.subject → after ≡ with_run tables folder percent act.place moment → new.log ≡ last_entries (old.log ++ record { moment = moment; folder = folder; percent = percent; kind = act.kind } ∷ []) → new.numbers ≡ with_number number old.numbers → new.folder ≡ old.folder → new.places ≡ old.places → Settles old new tables after moment (waiting tables.quotas (number ∷ []))
  ran_one old new after moment folder percent there f p tables_are log numbers marked_folder places =
      settles_one old new tables after moment number act is there
      (tables_are
      ∙ (ap (λ n. with_run tables n percent act.place moment) f ∙ (ap (λ n. with_run tables (folder_in act.subject) n act.place moment) p ∙ left_by_run moment)))
      (log
      ∙ (ap (λ n. last_entries (old.log ++ record { moment = moment; folder = n; percent = percent; kind = act.kind } ∷ [])) f
      ∙ ap (λ n. last_entries (old.log ++ record { moment = moment; folder = folder_in act.subject; percent = n; kind = act.kind } ∷ [])) p))
      numbers marked_folder places

-- ---- what stays of quotas of which actions ran
lists_run : (moment : ℕ) (acts : List Act) (quota : QuotaRow) → has_orderly_lists quota ≡ true → has_orderly_lists (run_quota moment acts quota) ≡ true
lists_run moment acts quota h =
    let new = map (run_threshold moment acts quota.folder) quota.thresholds in
    let parts = both (is_ascending percent_of quota.thresholds) (not (are_too_many quota.thresholds)) h in
    both_true (is_ascending percent_of new) (not (are_too_many new)) (ascending-map percent_of (run_threshold moment acts quota.folder) (λ t. refl) quota.thresholds parts.0) (ap not (many_run moment acts quota.folder quota.thresholds) ∙ parts.1)

all_run : (moment : ℕ) (acts : List Act) (quotas : List QuotaRow) → list_all has_orderly_lists quotas ≡ true → list_all has_orderly_lists (map (run_quota moment acts) quotas) ≡ true
all_run moment acts [] h = refl
all_run moment acts (quota ∷ quotas) h =
    let parts = both (has_orderly_lists quota) (list_all has_orderly_lists quotas) h in
    both_true (has_orderly_lists (run_quota moment acts quota)) (list_all has_orderly_lists (map (run_quota moment acts) quotas)) (lists_run moment acts quota parts.0) (all_run moment acts quotas parts.1)

pub orderly_run : (moment : ℕ) (acts : List Act) (quotas : List QuotaRow) → are_orderly quotas ≡ true → are_orderly (map (run_quota moment acts) quotas) ≡ true
orderly_run moment acts quotas h =
    let o = orderly quotas h in
    let new = map (run_quota moment acts) quotas in
    both_true (is_ascending folder_of new && nat_le (length new) 4096) (list_all has_orderly_lists new)
    (both_true (is_ascending folder_of new) (nat_le (length new) 4096) (ascending-map folder_of (run_quota moment acts) (λ q. refl) quotas o.ascending) (ap (λ n. nat_le n 4096) (length-map quotas (run_quota moment acts)) ∙ le_test (length quotas) 4096 o.few))
    (all_run moment acts quotas o.lists)

-- ---- in the midst of settling
module _ (old mid : Marked) (before now : Tables) (moment : ℕ) (acts : List Act) (settled : Settles old mid before now moment acts) where
  pub row_now : (place : ℕ) (quota : QuotaRow) → slice_get before.quotas place ≡ Some quota → slice_get now.quotas place ≡ Some (run_quota moment acts quota)
  row_now place quota at =
      ap (λ (t : Tables). slice_get t.quotas place) settled.tables
      ∙ (slice_get-map (run_quota moment acts) before.quotas place ∙ ap (option_map (run_quota moment acts)) at)

  pub orderly_now : are_orderly before.quotas ≡ true → are_orderly now.quotas ≡ true
  orderly_now h = ap (λ (t : Tables). are_orderly t.quotas) settled.tables ∙ orderly_run moment acts before.quotas h
