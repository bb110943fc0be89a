-- What is due, part by part: of a command, of an operation that a quota refuses, and of a screen.
use Rattle.std.proofs.Common.{◌≡◌, ℕ, ◌*◌, ◌==◌, ◌≤◌, true, false, ◌&&◌, List, [], refl, sym, ◌∙◌, ap, subst, Some, None, Option}
use Rattle.std.proofs.lemmas.Bool.{and_parts}
use Rattle.std.proofs.lemmas.Option.{same_Some}
use Rattle.std.specs.Prelude.{slice_get, find, option_map}
use Rattle.std.specs.List.{list_all}
use Rattle.std.specs.Option.{option_map_or}
use Rattle.fsrm_model.specs.declared.command.Refusal.{Refusal}
use Rattle.fsrm_model.specs.declared.command.Refusal.TheVariants.{QuotaExceeded}
use Rattle.fsrm_model.specs.declared.command.Subject.{Subject}
use Rattle.fsrm_model.specs.declared.command.Subject.TheVariants.{Quota, Screen}
use Rattle.fsrm_model.specs.declared.row.Action.{Action}
use Rattle.fsrm_model.specs.declared.row.Capacity.{Capacity}
use Rattle.fsrm_model.specs.declared.row.NodeRow.{NodeRow}
use Rattle.fsrm_model.specs.declared.row.QuotaRow.{QuotaRow}
use Rattle.fsrm_model.specs.declared.row.Rows.{Rows}
use Rattle.fsrm_model.specs.declared.row.ScreenRow.{ScreenRow}
use Rattle.fsrm_model.specs.declared.row.Threshold.{Threshold}
use Rattle.fsrm_base.specs.Keyed.{is_ascending, row_of, has_row}
use Rattle.fsrm_model.specs.objects.Acts.{has_act, same_subject, actions_of}
use Rattle.fsrm_model.specs.objects.DueActions.{ready, is_ready_at, quota_acts, due, due_refused, due_screen}
use Rattle.fsrm_model.specs.objects.Quota.{folder_of, quota_of, counts, refuses, over, deepest, exceeded}
use Rattle.fsrm_model.specs.meaning.Raises.{are_ascending, Raises, RaisesRefused, RunsOfScreen}
use Rattle.fsrm_model.specs.objects.Reached.{crossed, IsReached}
use Rattle.fsrm_model.specs.objects.Thresholds.{percent_of, actions_at}
use Rattle.fsrm_model.specs.nodes.Tree.{usage, is_under}
use Rattle.fsrm_base.proofs.Look.{found_passes, found_own, found_has}
use Rattle.fsrm_base.proofs.Members.{all_found}
use Rattle.fsrm_base.proofs.TestLaws.{both, both_true, eq_is, eq_same}
use Rattle.fsrm_model.proofs.commands.QuotaLaws.{find_both}
use Rattle.fsrm_model.proofs.thresholds.DueLaws.{ready_run, quota_run, due_run}
use Rattle.fsrm_model.proofs.thresholds.ReachedLaws.{crossed_parts, crossed_test}

-- an action that is there and may run
record IsReadyAt (run_limit moment : ℕ) (actions : List Action) (place : ℕ) : Type 0 where
  action : Action
  there : slice_get actions place ≡ Some action
  may_run : ready run_limit moment action ≡ true

ready_parts : (run_limit moment : ℕ) (actions : List Action) (place : ℕ) → is_ready_at run_limit moment actions place ≡ true → IsReadyAt run_limit moment actions place
ready_parts run_limit moment actions place h = at (slice_get actions place) refl h
  where
    at : (o : Option Action) → slice_get actions place ≡ o → option_map_or (ready run_limit moment) o false ≡ true → IsReadyAt run_limit moment actions place
    at None e h = absurd (cc h)
    at (Some action) e h = record { action = action; there = e; may_run = h }

ready_test : (run_limit moment : ℕ) (actions : List Action) (place : ℕ) (action : Action) → slice_get actions place ≡ Some action → ready run_limit moment action ≡ true → is_ready_at run_limit moment actions place ≡ true
ready_test run_limit moment actions place action there may = ap (λ o. option_map_or (ready run_limit moment) o false) there ∙ may

pub raised_parts : (K : Capacity) (before after : Rows) (moment folder percent place : ℕ) → are_ascending after.quotas ≡ true → has_act (due K before after moment) (Quota folder percent) place ≡ true → Raises K before after moment folder percent place
raised_parts K before after moment folder percent place a h =
    let actions = actions_of after (Quota folder percent) in
    let parts = both (crossed K before after folder percent) (is_ready_at after.run_limit moment actions place) (sym (due_run K before after moment folder percent place a) ∙ h) in
    let crosses = crossed_parts K before after folder percent parts.0 in
    let may = ready_parts after.run_limit moment actions place parts.1 in
    record { action = may.action; there = may.there; may_run = may.may_run; is_reached = crosses.is_reached; was_not = crosses.was_not }

pub raised_test : (K : Capacity) (before after : Rows) (moment folder percent place : ℕ) → are_ascending after.quotas ≡ true → Raises K before after moment folder percent place → has_act (due K before after moment) (Quota folder percent) place ≡ true
raised_test K before after moment folder percent place a is =
    let actions = actions_of after (Quota folder percent) in
    due_run K before after moment folder percent place a
    ∙ both_true (crossed K before after folder percent) (is_ready_at after.run_limit moment actions place)
    (crossed_test K before after folder percent (record { is_reached = is.is_reached; was_not = is.was_not }))
    (ready_test after.run_limit moment actions place is.action is.there is.may_run)

-- ---- refused
-- the quota that refuses is its folder's, and counts
pub record Refuser (K : Capacity) (R : Rows) (quota : QuotaRow) : Type 0 where
  pub there : quota_of R quota.folder ≡ Some quota
  pub counting : counts quota ≡ true
  pub ascends : is_ascending percent_of quota.thresholds ≡ true

pub refuser : (K : Capacity) (R : Rows) (nodes : List NodeRow) (quota : QuotaRow) → are_ascending R.quotas ≡ true → deepest nodes (over K R nodes) ≡ Some quota → Refuser K R quota
refuser K R nodes quota a h =
    let rises = λ (q : QuotaRow). refuses q (usage K R.nodes q.folder) (usage K nodes q.folder) in
    let is_deepest = λ (q : QuotaRow). list_all (λ above. is_under nodes above.folder q.folder) (over K R nodes) in
    let parts = both (is_ascending folder_of R.quotas) (list_all (λ q. is_ascending percent_of q.thresholds) R.quotas) a in
    let found : find (λ q. rises q && is_deepest q) R.quotas ≡ Some quota = sym (find_both is_deepest rises R.quotas) ∙ h in
    let passes = and_parts (rises quota) (is_deepest quota) (found_passes (λ q. rises q && is_deepest q) R.quotas quota found) in
    let halves = and_parts (counts quota && quota.enforce) _ passes.0 in
    record {
      there = found_own folder_of (λ q. rises q && is_deepest q) R.quotas quota parts.0 found;
      counting = (and_parts (counts quota) quota.enforce halves.0).0;
      ascends = all_found (λ q. is_ascending percent_of q.thresholds) (λ q. rises q && is_deepest q) R.quotas quota parts.1 found;
    }

-- the acts of the quota that refuses
refused_run : (K : Capacity) (R : Rows) (nodes : List NodeRow) (moment folder percent place : ℕ) (quota : QuotaRow) → are_ascending R.quotas ≡ true → deepest nodes (over K R nodes) ≡ Some quota → has_act (due_refused K R nodes moment) (Quota folder percent) place ≡ ((quota.folder == folder) && (crossed K R (record R { nodes = nodes }) quota.folder percent && is_ready_at R.run_limit moment (actions_at quota.thresholds percent) place))
refused_run K R nodes moment folder percent place quota a h =
    let passes = crossed K R (record R { nodes = nodes }) quota.folder in
    ap (λ o. has_act (option_map_or (λ q. quota_acts (crossed K R (record R { nodes = nodes }) q.folder) R.run_limit moment q) o []) (Quota folder percent) place) h
    ∙ quota_run passes R.run_limit moment quota folder percent place (refuser K R nodes quota a h).ascends

-- its actions are those of its folder
own_actions : (R : Rows) (quota : QuotaRow) (percent : ℕ) → quota_of R quota.folder ≡ Some quota → actions_of R (Quota quota.folder percent) ≡ actions_at quota.thresholds percent
own_actions R quota percent there = ap (λ o. option_map_or (λ q. actions_at q.thresholds percent) o []) there

abbrev refusal_of : Capacity → List NodeRow → QuotaRow → Refusal
refusal_of K nodes quota = QuotaExceeded quota.folder (usage K nodes quota.folder) quota.limit

pub refused_parts : (K : Capacity) (R : Rows) (nodes : List NodeRow) (moment folder percent place : ℕ) → are_ascending R.quotas ≡ true → has_act (due_refused K R nodes moment) (Quota folder percent) place ≡ true → RaisesRefused K R nodes moment folder percent place
refused_parts K R nodes moment folder percent place a h = at (deepest nodes (over K R nodes)) refl
  where
    at : (o : Option QuotaRow) → deepest nodes (over K R nodes) ≡ o → RaisesRefused K R nodes moment folder percent place
    at None e = absurd (cc (sym (ap (λ o. has_act (option_map_or (λ q. quota_acts (crossed K R (record R { nodes = nodes }) q.folder) R.run_limit moment q) o []) (Quota folder percent) place) e) ∙ h))
    at (Some quota) e =
        let after : Rows = record R { nodes = nodes } in
        let own = refuser K R nodes quota a e in
        let parts = both (quota.folder == folder) (crossed K R after quota.folder percent && is_ready_at R.run_limit moment (actions_at quota.thresholds percent) place) (sym (refused_run K R nodes moment folder percent place quota a e) ∙ h) in
        let halves = both (crossed K R after quota.folder percent) (is_ready_at R.run_limit moment (actions_at quota.thresholds percent) place) parts.1 in
        let crosses = crossed_parts K R after quota.folder percent halves.0 in
        let may = ready_parts R.run_limit moment (actions_at quota.thresholds percent) place halves.1 in
        let same : crosses.is_reached.quota ≡ quota = same_Some _ _ (sym crosses.is_reached.is_there ∙ own.there) in
        let is : RaisesRefused K R nodes moment quota.folder percent place = record {
          would = usage K nodes quota.folder;
          limit = quota.limit;
          refuses = ap (option_map (refusal_of K nodes)) e;
          action = may.action;
          there = ap (λ actions. slice_get actions place) (own_actions R quota percent own.there) ∙ may.there;
          may_run = may.may_run;
          was_not = crosses.was_not;
          would_be = subst (λ (q : QuotaRow). percent * q.limit ≤ 100 * usage K nodes quota.folder) same crosses.is_reached.enough;
        } in
        subst (λ n. RaisesRefused K R nodes moment n percent place) (eq_is quota.folder folder parts.0) is

-- a percentage with an action is that of a threshold
threshold_there : (thresholds : List Threshold) (percent place : ℕ) (action : Action) → slice_get (actions_at thresholds percent) place ≡ Some action → has_row percent_of percent thresholds ≡ true
threshold_there thresholds percent place action h = at (row_of percent_of percent thresholds) refl h
  where
    at : (o : Option Threshold) → row_of percent_of percent thresholds ≡ o → slice_get (option_map_or (λ t. t.actions) o []) place ≡ Some action → has_row percent_of percent thresholds ≡ true
    at None e h = absurd (cc h)
    at (Some t) e h = found_has percent_of percent thresholds t e

-- what a refusal names is of the quota that refuses
record Names (K : Capacity) (R : Rows) (nodes : List NodeRow) (folder would limit : ℕ) : Type 0 where
  quota : QuotaRow
  first : deepest nodes (over K R nodes) ≡ Some quota
  folder_is : quota.folder ≡ folder
  would_is : usage K nodes quota.folder ≡ would
  limit_is : quota.limit ≡ limit

named_by : (K : Capacity) (R : Rows) (nodes : List NodeRow) (folder would limit : ℕ) → exceeded K R nodes ≡ Some (QuotaExceeded folder would limit) → Names K R nodes folder would limit
named_by K R nodes folder would limit h = at (deepest nodes (over K R nodes)) refl h
  where
    at : (o : Option QuotaRow) → deepest nodes (over K R nodes) ≡ o → option_map (refusal_of K nodes) o ≡ Some (QuotaExceeded folder would limit) → Names K R nodes folder would limit
    at None e h = absurd (cc h)
    at (Some quota) e h = record { quota = quota; first = e; folder_is = cc h; would_is = cc h; limit_is = cc h }

pub refused_test : (K : Capacity) (R : Rows) (nodes : List NodeRow) (moment folder percent place : ℕ) → are_ascending R.quotas ≡ true → RaisesRefused K R nodes moment folder percent place → has_act (due_refused K R nodes moment) (Quota folder percent) place ≡ true
refused_test K R nodes moment folder percent place a is =
    let by = named_by K R nodes folder is.would is.limit is.refuses in
    let quota = by.quota in
    let after : Rows = record R { nodes = nodes } in
    let own = refuser K R nodes quota a by.first in
    let actions : actions_of R (Quota folder percent) ≡ actions_at quota.thresholds percent = subst (λ n. actions_of R (Quota n percent) ≡ actions_at quota.thresholds percent) by.folder_is (own_actions R quota percent own.there) in
    let there : slice_get (actions_at quota.thresholds percent) place ≡ Some is.action = ap (λ actions. slice_get actions place) (sym actions) ∙ is.there in
    let would : IsReached K after quota.folder percent = record {
      quota = quota;
      is_there = own.there;
      has = threshold_there quota.thresholds percent place is.action there;
      counting = own.counting;
      enough = subst (λ n. percent * n ≤ 100 * usage K nodes quota.folder) (sym by.limit_is) (subst (λ n. percent * is.limit ≤ 100 * n) (sym by.would_is) is.would_be);
    } in
    let was_not : IsReached K R quota.folder percent → ⊥ = λ was. is.was_not (subst (λ n. IsReached K R n percent) by.folder_is was) in
    refused_run K R nodes moment folder percent place quota a by.first
    ∙ both_true (quota.folder == folder) (crossed K R after quota.folder percent && is_ready_at R.run_limit moment (actions_at quota.thresholds percent) place)
    (ap (λ n. n == folder) by.folder_is ∙ eq_same folder)
    (both_true (crossed K R after quota.folder percent) (is_ready_at R.run_limit moment (actions_at quota.thresholds percent) place)
    (crossed_test K R after quota.folder percent (record { is_reached = would; was_not = was_not }))
    (ready_test R.run_limit moment (actions_at quota.thresholds percent) place is.action there is.may_run))

-- ---- of a screen
screen_is : (folder : ℕ) (subject : Subject) → same_subject (Screen folder) subject ≡ true → subject ≡ Screen folder
screen_is folder (Quota its percent) h = absurd (cc h)
screen_is folder (Screen its) h = ap Screen (sym (eq_is folder its h))

pub screen_parts : (run_limit moment : ℕ) (screen : ScreenRow) (subject : Subject) (place : ℕ) → has_act (due_screen run_limit moment screen) subject place ≡ true → RunsOfScreen run_limit moment screen subject place
screen_parts run_limit moment screen subject place h =
    let parts = both (same_subject (Screen screen.folder) subject) (is_ready_at run_limit moment screen.actions place) (sym (ready_run run_limit moment (Screen screen.folder) subject screen.actions place) ∙ h) in
    let may = ready_parts run_limit moment screen.actions place parts.1 in
    record { own = screen_is screen.folder subject parts.0; action = may.action; there = may.there; may_run = may.may_run }

pub screen_test : (run_limit moment : ℕ) (screen : ScreenRow) (subject : Subject) (place : ℕ) → RunsOfScreen run_limit moment screen subject place → has_act (due_screen run_limit moment screen) subject place ≡ true
screen_test run_limit moment screen subject place is =
    ready_run run_limit moment (Screen screen.folder) subject screen.actions place
    ∙ both_true (same_subject (Screen screen.folder) subject) (is_ready_at run_limit moment screen.actions place)
    (ap (same_subject (Screen screen.folder)) is.own ∙ eq_same screen.folder)
    (ready_test run_limit moment screen.actions place is.action is.there is.may_run)
