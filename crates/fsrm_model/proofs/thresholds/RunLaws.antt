-- What is left when actions ran: the last run of each, and the log.
use Rattle.std.proofs.Common.{◌≡◌, ℕ, zero, suc, ◌+◌, ◌-◌, ◌≤◌, ◌*◌, ◌==◌, Bool, false, ◌||◌, ◌&&◌, List, [], ◌∷◌, ◌++◌, length, refl, sym, ◌∙◌, ap, subst, arith, Some, None, Option, nat_le}
use Rattle.std.proofs.lemmas.List.{append-nil, length-drop}
use Rattle.std.specs.Prelude.{map, find, drop, slice_get, option_map, if◌then◌else◌}
use Rattle.std.specs.List.{enumerate_from}
use Rattle.std.specs.Option.{option_and_then, option_map_or}
use Rattle.fsrm_model.specs.declared.command.Act.{Act}
use Rattle.fsrm_model.specs.declared.command.Subject.{Subject}
use Rattle.fsrm_model.specs.declared.command.Subject.TheVariants.{Quota, Screen}
use Rattle.fsrm_model.specs.declared.row.Action.{Action}
use Rattle.fsrm_model.specs.declared.row.Capacity.{Capacity}
use Rattle.fsrm_model.specs.declared.row.QuotaRow.{QuotaRow}
use Rattle.fsrm_model.specs.declared.row.Rows.{Rows}
use Rattle.fsrm_model.specs.declared.row.ScreenRow.{ScreenRow}
use Rattle.fsrm_model.specs.declared.row.Threshold.{Threshold}
use Rattle.fsrm_base.specs.Keyed.{row_of, has_row}
use Rattle.fsrm_model.specs.objects.Acts.{has_act, actions_of}
use Rattle.fsrm_model.specs.values.Limits.{most_entries}
use Rattle.fsrm_model.specs.objects.Quota.{folder_of, quota_of, counts}
use Rattle.fsrm_model.specs.objects.Reached.{has_reached, reached}
use Rattle.fsrm_model.specs.objects.Runs.{run_actions, run_threshold, run_quota, run_screen, last_entries, ran}
use Rattle.fsrm_model.specs.objects.Thresholds.{percent_of, actions_at}
use Rattle.fsrm_model.specs.nodes.Tree.{usage}
use Rattle.fsrm_base.proofs.Look.{find-map, found_key, found_passes}
use Rattle.fsrm_base.proofs.RowLaws.{map_id}
use Rattle.fsrm_base.proofs.TestLaws.{eq_is}
use Rattle.fsrm_model.proofs.thresholds.DueLaws.{each}

-- ---- actions
-- an action, if it ran
abbrev pub with_run : ℕ → Bool → Action → Action
with_run moment did action = if did then record action { last_run = Some moment } else action

placed : (f : ℕ × Action → Action) (n : ℕ) (actions : List Action) (place : ℕ) → slice_get (map f (enumerate_from n actions)) place ≡ option_map (λ action. f (n + place, action)) (slice_get actions place)
placed f n [] place = refl
placed f n (action ∷ actions) zero = ap (λ m. Some (f (m, action))) (omega arith)
placed f n (action ∷ actions) (suc place) =
    placed f (n + 1) actions place ∙ ap (λ m. option_map (λ a. f (m, a)) (slice_get actions place)) (omega arith)

-- each keeps its place
pub run_at : (moment : ℕ) (acts : List Act) (subject : Subject) (actions : List Action) (place : ℕ) → slice_get (run_actions moment acts subject actions) place ≡ option_map (with_run moment (has_act acts subject place)) (slice_get actions place)
run_at moment acts subject actions place =
    placed (λ (at : ℕ × Action). if has_act acts subject at.0 then record at.1 { last_run = Some moment } else at.1) 0 actions place
    ∙ ap (λ n. option_map (with_run moment (has_act acts subject n)) (slice_get actions place)) none
  where
    none : 0 + place ≡ place
    none = omega arith

-- ---- of a quota and of a screen
actions-run : (moment : ℕ) (acts : List Act) (folder percent : ℕ) (thresholds : List Threshold) → actions_at (map (run_threshold moment acts folder) thresholds) percent ≡ run_actions moment acts (Quota folder percent) (actions_at thresholds percent)
actions-run moment acts folder percent thresholds =
    ap (λ o. option_map_or (λ (t : Threshold). t.actions) o []) (find-map (λ t. percent_of t == percent) (run_threshold moment acts folder) (λ t. refl) thresholds)
    ∙ at (row_of percent_of percent thresholds) refl
  where
    at : (o : Option Threshold) → row_of percent_of percent thresholds ≡ o → option_map_or (λ (t : Threshold). t.actions) (option_map (run_threshold moment acts folder) o) [] ≡ run_actions moment acts (Quota folder percent) (option_map_or (λ (t : Threshold). t.actions) o [])
    at None e = refl
    at (Some t) e = ap (λ n. run_actions moment acts (Quota folder n) t.actions) (found_key percent_of percent thresholds t e)

pub quota_run : (moment : ℕ) (acts : List Act) (R : Rows) (folder : ℕ) → quota_of (ran moment acts R) folder ≡ option_map (run_quota moment acts) (quota_of R folder)
quota_run moment acts R folder = find-map (λ q. folder_of q == folder) (run_quota moment acts) (λ q. refl) R.quotas

pub actions_run : (moment : ℕ) (acts : List Act) (R : Rows) (subject : Subject) → actions_of (ran moment acts R) subject ≡ run_actions moment acts subject (actions_of R subject)
actions_run moment acts R (Quota folder percent) =
    ap (λ o. option_map_or (λ (q : QuotaRow). actions_at q.thresholds percent) o []) (quota_run moment acts R folder) ∙ at (quota_of R folder) refl
  where
    at : (o : Option QuotaRow) → quota_of R folder ≡ o → option_map_or (λ (q : QuotaRow). actions_at q.thresholds percent) (option_map (run_quota moment acts) o) [] ≡ run_actions moment acts (Quota folder percent) (option_map_or (λ (q : QuotaRow). actions_at q.thresholds percent) o [])
    at None e = refl
    at (Some q) e =
        actions-run moment acts q.folder percent q.thresholds
        ∙ ap (λ n. run_actions moment acts (Quota n percent) (actions_at q.thresholds percent)) (found_key folder_of folder R.quotas q e)
actions_run moment acts R (Screen folder) =
    ap (λ o. option_map_or (λ (s : ScreenRow). s.actions) o []) (find-map (λ (s : ScreenRow). s.folder == folder) (run_screen moment acts) (λ s. refl) R.screens)
    ∙ at (find (λ (s : ScreenRow). s.folder == folder) R.screens) refl
  where
    at : (o : Option ScreenRow) → find (λ (s : ScreenRow). s.folder == folder) R.screens ≡ o → option_map_or (λ (s : ScreenRow). s.actions) (option_map (run_screen moment acts) o) [] ≡ run_actions moment acts (Screen folder) (option_map_or (λ (s : ScreenRow). s.actions) o [])
    at None e = refl
    at (Some s) e = ap (λ n. run_actions moment acts (Screen n) s.actions) (eq_is s.folder folder (found_passes (λ (s : ScreenRow). s.folder == folder) R.screens s e))

pub action_run : (moment : ℕ) (acts : List Act) (R : Rows) (subject : Subject) (place : ℕ) → slice_get (actions_of (ran moment acts R) subject) place ≡ option_map (with_run moment (has_act acts subject place)) (slice_get (actions_of R subject) place)
action_run moment acts R subject place =
    ap (λ actions. slice_get actions place) (actions_run moment acts R subject) ∙ run_at moment acts subject (actions_of R subject) place

-- ---- no act
unrun_actions : (moment : ℕ) (subject : Subject) (n : ℕ) (actions : List Action) → map (λ (at : ℕ × Action). if has_act [] subject at.0 then record at.1 { last_run = Some moment } else at.1) (enumerate_from n actions) ≡ actions
unrun_actions moment subject n [] = refl
unrun_actions moment subject n (action ∷ actions) = ap (λ more. action ∷ more) (unrun_actions moment subject (n + 1) actions)

pub unrun_quota : (moment : ℕ) (quota : QuotaRow) → run_quota moment [] quota ≡ quota
unrun_quota moment quota =
    ap (λ thresholds. record quota { thresholds = thresholds })
    (map_id (run_threshold moment [] quota.folder) quota.thresholds
    (each (λ t. run_threshold moment [] quota.folder t ≡ t) (λ t. ap (λ actions. record t { actions = actions }) (unrun_actions moment (Quota quota.folder t.percent) 0 t.actions)) quota.thresholds))

unrun_screen : (moment : ℕ) (screen : ScreenRow) → run_screen moment [] screen ≡ screen
unrun_screen moment screen = ap (λ actions. record screen { actions = actions }) (unrun_actions moment (Screen screen.folder) 0 screen.actions)

pub short_log : {X : Type 0} (log : List X) → length log ≤ most_entries → last_entries log ≡ log
short_log log h = ap (λ n. drop n log) (gone (length log) h)
  where
    gone : (n : ℕ) → n ≤ most_entries → n - most_entries ≡ 0
    gone n h = omega (arith, h)

pub none_ran : (moment : ℕ) (R : Rows) → length R.acts ≤ most_entries → ran moment [] R ≡ R
none_ran moment R h =
    ap (λ quotas. record R { quotas = quotas; screens = map (run_screen moment []) R.screens; acts = last_entries (R.acts ++ []) })
    (map_id (run_quota moment []) R.quotas (each (λ q. run_quota moment [] q ≡ q) (unrun_quota moment) R.quotas))
    ∙ (ap (λ screens. record R { screens = screens; acts = last_entries (R.acts ++ []) })
    (map_id (run_screen moment []) R.screens (each (λ s. run_screen moment [] s ≡ s) (unrun_screen moment) R.screens))
    ∙ ap (λ log. record R { acts = log }) (ap last_entries (append-nil R.acts) ∙ short_log R.acts h))

-- ---- the log
pub few_entries : {X : Type 0} (log : List X) → length (last_entries log) ≤ most_entries
few_entries log = subst (λ n. n ≤ most_entries) (sym (length-drop (length log - most_entries) log)) (less (length log))
  where
    less : (n : ℕ) → n - (n - most_entries) ≤ most_entries
    less n = omega arith

-- ---- what stays
pub reached_ran : (K : Capacity) (moment : ℕ) (acts : List Act) (R : Rows) (folder percent : ℕ) → reached K (ran moment acts R) folder percent ≡ reached K R folder percent
reached_ran K moment acts R folder percent =
    ap by (quota_run moment acts R folder) ∙ at (quota_of R folder)
  where
    by : Option QuotaRow → Bool
    by o = option_map_or (λ quota. has_reached quota percent (option_and_then (λ q. if counts q then Some (usage K R.nodes folder) else None) o)) o false

    any-map : (f : ℕ) (thresholds : List Threshold) → has_row percent_of percent (map (run_threshold moment acts f) thresholds) ≡ has_row percent_of percent thresholds
    any-map f [] = refl
    any-map f (t ∷ thresholds) = ap (λ b. (t.percent == percent) || b) (any-map f thresholds)

    at : (o : Option QuotaRow) → by (option_map (run_quota moment acts) o) ≡ by o
    at None = refl
    at (Some q) =
        ap (λ b. b && option_map_or (λ bytes. nat_le (percent * q.limit) (100 * bytes)) (if counts q then Some (usage K R.nodes folder) else None) false) (any-map q.folder q.thresholds)
