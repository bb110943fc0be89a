-- Quotas stay those of a store when actions run: what they have, the bytes of their texts, and the log.
use Rattle.std.proofs.Common.{◌≡◌, ℕ, zero, suc, ◌+◌, ◌≤◌, Bool, true, false, cond, not, ◌||◌, ◌&&◌, List, [], ◌∷◌, ◌++◌, length, refl, sym, ◌∙◌, ap, arith, Some, nat_lt, nat_le}
use Rattle.std.proofs.lemmas.List.{length-map}
use Rattle.std.proofs.lemmas.List.Folds.{list_all-append}
use Rattle.std.proofs.lemmas.List.FromFn.{length-enumerate_from}
use Rattle.std.proofs.lemmas.List.Sums.{sum_by-cons}
use Rattle.std.specs.Prelude.{map, drop, filter, sum_by, if◌then◌else◌}
use Rattle.std.specs.List.{list_any, list_all, enumerate_from}
use Rattle.std.specs.Option.{option_map_or}
use Rattle.fsrm_model.specs.objects.Acts.{has_act}
use Rattle.fsrm_model.specs.declared.command.Act.{Act}
use Rattle.fsrm_model.specs.declared.command.Subject.{Subject}
use Rattle.fsrm_model.specs.declared.command.Subject.TheVariants.{Quota, Screen}
use Rattle.fsrm_model.specs.declared.row.ActRow.{ActRow}
use Rattle.fsrm_model.specs.declared.row.Action.{Action}
use Rattle.fsrm_model.specs.declared.row.QuotaRow.{QuotaRow}
use Rattle.fsrm_model.specs.declared.row.Rows.{Rows}
use Rattle.fsrm_model.specs.declared.row.ScreenRow.{ScreenRow}
use Rattle.fsrm_model.specs.declared.row.Threshold.{Threshold}
use Rattle.fsrm_base.specs.Keyed.{is_ascending}
use Rattle.fsrm_model.specs.values.Limits.{latest_moment, most_actions, most_entries, most_text_bytes, most_thresholds}
use Rattle.fsrm_model.specs.objects.Runs.{run_actions, run_threshold, run_quota, run_screen, last_entries, entry_of, ran}
use Rattle.fsrm_model.specs.values.Texts.{action_bytes, quota_bytes, object_texts}
use Rattle.fsrm_model.specs.objects.Thresholds.{percent_of, is_percent, is_action, is_kept_action, is_threshold, is_crowded, are_too_many, are_thresholds}
use Rattle.fsrm_model.specs.store.Valid.{is_moment, are_entries}
use Rattle.fsrm_base.proofs.Order.{ascending-map}
use Rattle.fsrm_base.proofs.TestLaws.{both, both_true, le_test}
use Rattle.fsrm_model.proofs.thresholds.RunLaws.{with_run, few_entries}

-- ---- sums
pub sum_by-same : {X : Type 0} (f : X → ℕ) (g : X → X) → ((x : X) → f (g x) ≡ f x) → (xs : List X) → sum_by f (map g xs) ≡ sum_by f xs
sum_by-same f g h [] = refl
sum_by-same f g h (x ∷ xs) =
    sum_by-cons f (g x) (map g xs) ∙ (ap (λ n. n + sum_by f (map g xs)) (h x) ∙ (ap (λ n. f x + n) (sum_by-same f g h xs) ∙ sym (sum_by-cons f x xs)))

pub sum_by-less : {X : Type 0} (f : X → ℕ) (p : X → Bool) (xs : List X) → sum_by f (filter p xs) ≤ sum_by f xs
sum_by-less f p [] = omega arith
sum_by-less f p (x ∷ xs) = at (p x) (sum_by-less f p xs)
  where
    at : (b : Bool) → sum_by f (filter p xs) ≤ sum_by f xs → sum_by f (cond b (x ∷ filter p xs) (filter p xs)) ≤ sum_by f (x ∷ xs)
    at true h = omega (arith, h, sum_by-cons f x (filter p xs), sum_by-cons f x xs)
    at false h = omega (arith, h, sum_by-cons f x xs)

-- texts that aren't more than before fit as before
pub fewer_texts : (R : Rows) (quotas : List QuotaRow) → sum_by quota_bytes quotas ≤ sum_by quota_bytes R.quotas → object_texts R ≤ most_text_bytes → object_texts (record R { quotas = quotas }) ≤ most_text_bytes
fewer_texts R quotas less few = omega (arith, less, few)

pub same_texts : (R : Rows) (quotas : List QuotaRow) → sum_by quota_bytes quotas ≡ sum_by quota_bytes R.quotas → object_texts R ≤ most_text_bytes → object_texts (record R { quotas = quotas }) ≤ most_text_bytes
same_texts R quotas same few = fewer_texts R quotas (omega (arith, same)) few

-- ---- texts of what ran
text_run : (moment : ℕ) (b : Bool) (action : Action) → length (with_run moment b action).text ≡ length action.text
text_run moment true action = refl
text_run moment false action = refl

bytes_from : (moment : ℕ) (acts : List Act) (subject : Subject) (n : ℕ) (actions : List Action) → action_bytes (map (λ (at : ℕ × Action). if has_act acts subject at.0 then record at.1 { last_run = Some moment } else at.1) (enumerate_from n actions)) ≡ action_bytes actions
bytes_from moment acts subject n [] = refl
bytes_from moment acts subject n (action ∷ actions) =
    let f : ℕ × Action → Action = λ (at : ℕ × Action). if has_act acts subject at.0 then record at.1 { last_run = Some moment } else at.1 in
    sum_by-cons (λ (a : Action). length a.text) (f (n, action)) (map f (enumerate_from (n + 1) actions))
    ∙ (ap (λ k. k + action_bytes (map f (enumerate_from (n + 1) actions))) (text_run moment (has_act acts subject n) action)
    ∙ (ap (λ k. length action.text + k) (bytes_from moment acts subject (n + 1) actions) ∙ sym (sum_by-cons (λ (a : Action). length a.text) action actions)))

pub bytes_run : (moment : ℕ) (acts : List Act) (quota : QuotaRow) → quota_bytes (run_quota moment acts quota) ≡ quota_bytes quota
bytes_run moment acts quota =
    sum_by-same (λ (t : Threshold). action_bytes t.actions) (run_threshold moment acts quota.folder) (λ t. bytes_from moment acts (Quota quota.folder t.percent) 0 t.actions) quota.thresholds

pub screen_bytes_run : (moment : ℕ) (acts : List Act) (screen : ScreenRow) → action_bytes (run_screen moment acts screen).actions ≡ action_bytes screen.actions
screen_bytes_run moment acts screen = bytes_from moment acts (Screen screen.folder) 0 screen.actions

-- ---- what a quota has
kept_run : (moment : ℕ) → moment ≤ latest_moment → (b : Bool) (action : Action) → is_kept_action action ≡ true → is_kept_action (with_run moment b action) ≡ true
kept_run moment late true action h =
    let parts = both (is_action action) (option_map_or (λ run. nat_le run latest_moment) action.last_run true) h in
    both_true (is_action action) (nat_le moment latest_moment) parts.0 (le_test moment latest_moment late)
kept_run moment late false action h = h

pub all_from : (moment : ℕ) (acts : List Act) (subject : Subject) (n : ℕ) (actions : List Action) → moment ≤ latest_moment → list_all is_kept_action actions ≡ true → list_all is_kept_action (map (λ (at : ℕ × Action). if has_act acts subject at.0 then record at.1 { last_run = Some moment } else at.1) (enumerate_from n actions)) ≡ true
all_from moment acts subject n [] late h = refl
all_from moment acts subject n (action ∷ actions) late h =
    let f : ℕ × Action → Action = λ (at : ℕ × Action). if has_act acts subject at.0 then record at.1 { last_run = Some moment } else at.1 in
    let parts = both (is_kept_action action) (list_all is_kept_action actions) h in
    both_true (is_kept_action (f (n, action))) (list_all is_kept_action (map f (enumerate_from (n + 1) actions)))
    (kept_run moment late (has_act acts subject n) action parts.0) (all_from moment acts subject (n + 1) actions late parts.1)

threshold_run : (moment : ℕ) (acts : List Act) (folder : ℕ) → moment ≤ latest_moment → (t : Threshold) → is_threshold t ≡ true → is_threshold (run_threshold moment acts folder t) ≡ true
threshold_run moment acts folder late t h =
    let parts = both (is_percent t.percent) (list_all is_kept_action t.actions) h in
    both_true (is_percent t.percent) (list_all is_kept_action (run_actions moment acts (Quota folder t.percent) t.actions)) parts.0
    (all_from moment acts (Quota folder t.percent) 0 t.actions late parts.1)

crowded_run : (moment : ℕ) (acts : List Act) (folder : ℕ) (t : Threshold) → is_crowded (run_threshold moment acts folder t) ≡ is_crowded t
crowded_run moment acts folder t =
    ap (nat_lt most_actions) (length-map (enumerate_from 0 t.actions) (λ (at : ℕ × Action). if has_act acts (Quota folder t.percent) at.0 then record at.1 { last_run = Some moment } else at.1) ∙ length-enumerate_from 0 t.actions)

pub many_run : (moment : ℕ) (acts : List Act) (folder : ℕ) (thresholds : List Threshold) → are_too_many (map (run_threshold moment acts folder) thresholds) ≡ are_too_many thresholds
many_run moment acts folder thresholds =
    ap (λ n. nat_lt most_thresholds n || list_any is_crowded (map (run_threshold moment acts folder) thresholds)) (length-map thresholds (run_threshold moment acts folder))
    ∙ ap (λ b. nat_lt most_thresholds (length thresholds) || b) (any thresholds)
  where
    any : (ts : List Threshold) → list_any is_crowded (map (run_threshold moment acts folder) ts) ≡ list_any is_crowded ts
    any [] = refl
    any (t ∷ ts) = ap (λ b. b || list_any is_crowded (map (run_threshold moment acts folder) ts)) (crowded_run moment acts folder t) ∙ ap (λ b. is_crowded t || b) (any ts)

pub thresholds_run : (moment : ℕ) (acts : List Act) (folder : ℕ) (thresholds : List Threshold) → moment ≤ latest_moment → are_thresholds thresholds ≡ true → are_thresholds (map (run_threshold moment acts folder) thresholds) ≡ true
thresholds_run moment acts folder thresholds late h =
    let new = map (run_threshold moment acts folder) thresholds in
    let parts = both (is_ascending percent_of thresholds && not (are_too_many thresholds)) (list_all is_threshold thresholds) h in
    let order = both (is_ascending percent_of thresholds) (not (are_too_many thresholds)) parts.0 in
    both_true (is_ascending percent_of new && not (are_too_many new)) (list_all is_threshold new)
    (both_true (is_ascending percent_of new) (not (are_too_many new)) (ascending-map percent_of (run_threshold moment acts folder) (λ t. refl) thresholds order.0)
    (ap not (many_run moment acts folder thresholds) ∙ order.1)) (each thresholds parts.1)
  where
    each : (ts : List Threshold) → list_all is_threshold ts ≡ true → list_all is_threshold (map (run_threshold moment acts folder) ts) ≡ true
    each [] h = refl
    each (t ∷ ts) h =
        let parts = both (is_threshold t) (list_all is_threshold ts) h in
        both_true (is_threshold (run_threshold moment acts folder t)) (list_all is_threshold (map (run_threshold moment acts folder) ts))
        (threshold_run moment acts folder late t parts.0) (each ts parts.1)

-- ---- the log
abbrev dated : ActRow → Bool
dated entry = is_moment entry.moment

pub all_dropped : {X : Type 0} (p : X → Bool) (k : ℕ) (log : List X) → list_all p log ≡ true → list_all p (drop k log) ≡ true
all_dropped p zero log h = h
all_dropped p (suc k) [] h = refl
all_dropped p (suc k) (entry ∷ log) h = all_dropped p k log (both (p entry) (list_all p log) h).1

entries_dated : (moment : ℕ) (acts : List Act) → moment ≤ latest_moment → list_all dated (map (entry_of moment) acts) ≡ true
entries_dated moment [] late = refl
entries_dated moment (act ∷ acts) late = both_true (nat_le moment latest_moment) (list_all dated (map (entry_of moment) acts)) (le_test moment latest_moment late) (entries_dated moment acts late)

pub log_run : (moment : ℕ) (acts : List Act) (R : Rows) → moment ≤ latest_moment → are_entries R.acts ≡ true → are_entries (ran moment acts R).acts ≡ true
log_run moment acts R late h =
    let whole = R.acts ++ map (entry_of moment) acts in
    let parts = both (nat_le (length R.acts) most_entries) (list_all dated R.acts) h in
    both_true (nat_le (length (last_entries whole)) most_entries) (list_all dated (last_entries whole)) (le_test _ _ (few_entries whole))
    (all_dropped dated _ whole (list_all-append dated R.acts (map (entry_of moment) acts) ∙ both_true (list_all dated R.acts) (list_all dated (map (entry_of moment) acts)) parts.1 (entries_dated moment acts late)))
