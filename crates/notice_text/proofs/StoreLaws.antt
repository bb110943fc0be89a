-- What a store's rows give its notices.
use Rattle.std.proofs.Common.{◌≡◌, ℕ, ◌≤◌, List, [], ◌∷◌, Bool, true, false, length, Option, Some, None, refl, ap, subst, ◌∙◌, sym}
use Rattle.std.specs.Prelude.{◌&&◌, not, nat_le, nat_lt, slice_get, option_map, IfOk, Result, Ok, Err}
use Rattle.std.specs.List.{All, list_all, list_any}
use Rattle.notice_text.specs.declared.notice.Notice.{Notice}
use Rattle.std.specs.Option.{option_map_or}
use Rattle.fsrm_base.specs.Keyed.{has_row, is_ascending}
use Rattle.fsrm_base.proofs.Look.{found_has, found_key}
use Rattle.fsrm_base.proofs.Members.{all_pass}
use Rattle.fsrm_base.proofs.TestLaws.{both, both_true, ge_is, is_false, le_test, neither}
use Rattle.fsrm_model.specs.declared.command.Act.{Act}
use Rattle.fsrm_model.specs.declared.command.Subject.{Subject}
use Rattle.fsrm_model.specs.declared.command.Subject.TheVariants.{Quota, Screen}
use Rattle.fsrm_model.specs.declared.row.Action.{Action}
use Rattle.fsrm_model.specs.declared.row.Capacity.{Capacity}
use Rattle.fsrm_model.specs.declared.row.NodeRow.{NodeRow}
use Rattle.fsrm_model.specs.declared.row.QuotaRow.{QuotaRow}
use Rattle.fsrm_model.specs.declared.row.Rows.{Rows}
use Rattle.fsrm_model.specs.declared.row.ScreenRow.{ScreenRow}
use Rattle.fsrm_model.specs.declared.row.Threshold.{Threshold}
use Rattle.fsrm_model.specs.objects.Acts.{IsAct, actions_of, folder_in}
use Rattle.fsrm_model.specs.values.Limits.{greatest_limit, least_limit, most_actions, most_screens, most_thresholds}
use Rattle.fsrm_model.specs.objects.Quota.{folder_of, quota_of, used_of}
use Rattle.fsrm_model.specs.objects.Screens.{screen_folder, screen_of}
use Rattle.fsrm_model.specs.objects.Thresholds.{actions_at, are_too_many, is_crowded, is_kept_action, is_threshold, percent_of}
use Rattle.fsrm_model.specs.nodes.Tree.{is_folder, number}
use Rattle.fsrm_model.specs.store.Valid.{AreQuotas, IsValid, is_sound_screen}
use Rattle.fsrm_model.proofs.nodes.Keeps.{folder_found}
use Rattle.fsrm_model.proofs.valid.ScreensKept.{screen_at, screen_parts, table_parts}
use Rattle.fsrm_model.specs.texts.ActText.{text_of}
use Rattle.fsrm_model.specs.texts.Printed.{path_text}
use Rattle.line_parts.specs.Moments.{moment_text}
use Rattle.notice_text.specs.declared.macros.QuotaFacts.{QuotaFacts}
use Rattle.notice_text.specs.Expand.{is_wide}
use Rattle.notice_text.specs.Notices.{has_short_lists, is_short, is_short_screen}
use Rattle.notice_text.specs.NoticeText.{notice_text}
use Rattle.notice_text.specs.Outbox.{facts_of, notice_lines}

-- ---- lists are short
none_crowded : (thresholds : List Threshold) → list_any is_crowded thresholds ≡ false → list_all (λ (threshold : Threshold). is_short threshold.actions) thresholds ≡ true
none_crowded [] h = refl
none_crowded (threshold ∷ thresholds) h =
    let parts = neither (is_crowded threshold) (list_any is_crowded thresholds) h in
    let short : is_short threshold.actions ≡ true = le_test (length threshold.actions) most_actions (few (length threshold.actions) parts.0) in
    ap (λ (b : Bool). b && list_all (λ (threshold : Threshold). is_short threshold.actions) thresholds) short ∙ none_crowded thresholds parts.1
  where
    few : (n : ℕ) → nat_lt most_actions n ≡ false → n ≤ most_actions
    few n e = ge_is most_actions n e

pub short_quotas : (nodes : List NodeRow) (quotas : List QuotaRow) → AreQuotas nodes quotas → list_all has_short_lists quotas ≡ true
short_quotas nodes quotas a =
    all_pass folder_of has_short_lists quotas a.ascending
    (λ q own. let kept = both (is_ascending percent_of q.thresholds && not (are_too_many q.thresholds)) (list_all is_threshold q.thresholds) (a.thresholds q.folder q own) in
    let many = is_false (are_too_many q.thresholds) (both (is_ascending percent_of q.thresholds) (not (are_too_many q.thresholds)) kept.0).1 in
    none_crowded q.thresholds (neither (nat_lt most_thresholds (length q.thresholds)) (list_any is_crowded q.thresholds) many).1)

weaker : {X : Type 0} (p q : X → Bool) (xs : List X) → ((x : X) → p x ≡ true → q x ≡ true) → list_all p xs ≡ true → list_all q xs ≡ true
weaker p q [] h all = refl
weaker p q (x ∷ xs) h all = let parts = both (p x) (list_all p xs) all in both_true _ _ (h x parts.0) (weaker p q xs h parts.1)

pub short_screens : (K : Capacity) (R : Rows) → IsValid K R → list_all is_short_screen R.screens ≡ true
short_screens K R store =
    weaker (is_sound_screen R.nodes R.groups R.excepts) is_short_screen R.screens
    (λ screen h. (both (nat_le (length screen.actions) most_actions) (list_all is_kept_action screen.actions) (screen_parts R.nodes R.groups R.excepts screen h).actions).0)
    (table_parts screen_folder most_screens (is_sound_screen R.nodes R.groups R.excepts) R.screens store.tables.screens).each

-- ---- a limit is wide
wide_if : (K : Capacity) (R : Rows) (folder percent : ℕ) (found : Option QuotaRow) → ((quota : QuotaRow) → found ≡ Some quota → nat_le 1024 quota.limit ≡ true) → (make : QuotaRow → QuotaFacts) → ((quota : QuotaRow) → (make quota).limit ≡ quota.limit) → is_wide (option_map make found) ≡ true
wide_if K R folder percent None h make same = refl
wide_if K R folder percent (Some quota) h make same = ap (λ n. nat_le 1024 n) (same quota) ∙ h quota refl

pub wide_facts : (K : Capacity) (R : Rows) (subject : Subject) → IsValid K R → is_wide (facts_of K R subject) ≡ true
wide_facts K R (Quota folder percent) store =
    wide_if K R folder percent (quota_of R folder)
    (λ quota e. (both (nat_le least_limit quota.limit) (nat_le quota.limit greatest_limit) (store.quotas.limits folder quota e)).0)
    (λ quota. record { limit = quota.limit; used = used_of K R folder; peak = quota.peak; percent = percent }) (λ quota. refl)
wide_facts K R (Screen folder) store = refl

-- ---- the folder of an act is there
is_node : (nodes : List NodeRow) (n : ℕ) → is_folder nodes n ≡ true → has_row number n nodes ≡ true
is_node nodes n h =
    let found = folder_found nodes n h in
    found_has number n nodes found.row found.found

none_at : {X : Type 0} (k : ℕ) (x : X) → slice_get [] k ≡ Some x → ⊥
none_at k x h = cc h

quota_is_on : (K : Capacity) (R : Rows) (folder percent place : ℕ) (action : Action) → IsValid K R → slice_get (actions_of R (Quota folder percent)) place ≡ Some action → has_row number folder R.nodes ≡ true
quota_is_on K R folder percent place action store h = at (quota_of R folder) refl h
  where
    at : (found : Option QuotaRow) → quota_of R folder ≡ found → slice_get (option_map_or (λ quota. actions_at quota.thresholds percent) found []) place ≡ Some action → has_row number folder R.nodes ≡ true
    at None e h = absurd (none_at place action h)
    at (Some quota) e h = is_node R.nodes folder (store.quotas.folders folder quota e)

screen_is_on : (K : Capacity) (R : Rows) (folder place : ℕ) (action : Action) → IsValid K R → slice_get (actions_of R (Screen folder)) place ≡ Some action → has_row number folder R.nodes ≡ true
screen_is_on K R folder place action store h = at (screen_of R folder) refl h
  where
    at : (found : Option ScreenRow) → screen_of R folder ≡ found → slice_get (option_map_or (λ screen. screen.actions) found []) place ≡ Some action → has_row number folder R.nodes ≡ true
    at None e h = absurd (none_at place action h)
    at (Some screen) e h =
        subst (λ n. has_row number n R.nodes ≡ true) (found_key screen_folder folder R.screens screen e)
        (is_node R.nodes screen.folder (screen_at R.nodes R.groups R.excepts R.screens folder screen store.tables.screens e).folder)

pub act_node : (K : Capacity) (R : Rows) (act : Act) → IsValid K R → IsAct R act → has_row number (folder_in act.subject) R.nodes ≡ true
act_node K R act store is = at act.subject is.there
  where
    at : (subject : Subject) → slice_get (actions_of R subject) act.place ≡ Some is.action → has_row number (folder_in subject) R.nodes ≡ true
    at (Quota folder percent) h = quota_is_on K R folder percent act.place is.action store h
    at (Screen folder) h = screen_is_on K R folder act.place is.action store h

-- what holds of the notices holds of those that were found
pub found_all : {V E : Type 0} (P : Notice → Type 0) (items : V → List Notice) (xs : List Notice) (r : Result V E) → IfOk r (λ v. items v ≡ xs) → All P xs → IfOk r (λ v. All P (items v))
found_all P items xs (Ok v) h all = subst (All P) (sym h) all
found_all P items xs (Err e) h all = tt

-- the lines of a notice, by what is known of it
pub notice_same : (K : Capacity) (R : Rows) (notice : Notice) (path date text : List ℕ) (quota : Option QuotaFacts) → path ≡ path_text R.nodes (folder_in notice.act.subject) → date ≡ moment_text notice.moment → text ≡ text_of R notice.act → quota ≡ facts_of K R notice.act.subject
    → notice_text notice.act (record { path = path; date = date; quota = quota }) text ≡ notice_lines K R notice
notice_same K R notice path date text quota p q r s = rw (p, q, r, s) refl
