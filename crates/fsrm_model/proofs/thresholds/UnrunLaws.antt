-- Acts of quotas leave screens as they are, and those of screens leave quotas.
use Rattle.std.proofs.Common.{◌≡◌, ℕ, ◌+◌, ◌==◌, true, false, ◌&&◌, List, [], ◌∷◌, refl, ◌∙◌, ap, Some}
use Rattle.std.specs.Prelude.{map, if◌then◌else◌}
use Rattle.std.specs.List.{AllByRecursion, enumerate_from}
use Rattle.fsrm_base.proofs.RowLaws.{map_id}
use Rattle.fsrm_base.proofs.TestLaws.{nor}
use Rattle.fsrm_model.specs.declared.command.Act.{Act}
use Rattle.fsrm_model.specs.declared.command.Subject.{Subject}
use Rattle.fsrm_model.specs.declared.command.Subject.TheVariants.{Quota, Screen}
use Rattle.fsrm_model.specs.declared.row.Action.{Action}
use Rattle.fsrm_model.specs.declared.row.QuotaRow.{QuotaRow}
use Rattle.fsrm_model.specs.declared.row.ScreenRow.{ScreenRow}
use Rattle.fsrm_model.specs.declared.row.Threshold.{Threshold}
use Rattle.fsrm_model.specs.objects.Acts.{is_of_quota, same_subject, has_act}
use Rattle.fsrm_model.specs.objects.DueActions.{due_screen}
use Rattle.fsrm_model.specs.objects.Runs.{run_actions, run_threshold, run_quota, run_screen}
use Rattle.fsrm_model.proofs.thresholds.ActLaws.{IsOfScreen, IsOfQuota, ready_of}
use Rattle.fsrm_model.proofs.thresholds.DueLaws.{each}
use Rattle.fsrm_model.proofs.thresholds.RunLaws.{with_run}

-- acts of other subjects have none of a subject's actions run
abbrev IsOther : Subject → Act → Type 0
IsOther subject act = same_subject act.subject subject ≡ false

none_has : (acts : List Act) (subject : Subject) (place : ℕ) → AllByRecursion (IsOther subject) acts → has_act acts subject place ≡ false
none_has [] subject place h = refl
none_has (act ∷ acts) subject place h =
    nor (same_subject act.subject subject && (act.place == place)) (has_act acts subject place) (ap (λ b. b && (act.place == place)) h.0) (none_has acts subject place h.1)

unrun_from : (moment : ℕ) (acts : List Act) (subject : Subject) (n : ℕ) (actions : List Action) → AllByRecursion (IsOther subject) acts → map (λ (at : ℕ × Action). if has_act acts subject at.0 then record at.1 { last_run = Some moment } else at.1) (enumerate_from n actions) ≡ actions
unrun_from moment acts subject n [] h = refl
unrun_from moment acts subject n (action ∷ actions) h =
    let f : ℕ × Action → Action = λ (at : ℕ × Action). if has_act acts subject at.0 then record at.1 { last_run = Some moment } else at.1 in
    ap (λ b. with_run moment b action ∷ map f (enumerate_from (n + 1) actions)) (none_has acts subject n h)
    ∙ ap (λ more. action ∷ more) (unrun_from moment acts subject (n + 1) actions h)

unrun_others : (moment : ℕ) (acts : List Act) (subject : Subject) (actions : List Action) → AllByRecursion (IsOther subject) acts → run_actions moment acts subject actions ≡ actions
unrun_others moment acts subject actions h = unrun_from moment acts subject 0 actions h

-- acts of quotas are of no screen, and the other way round
apart_screen : (folder : ℕ) (acts : List Act) → AllByRecursion IsOfQuota acts → AllByRecursion (IsOther (Screen folder)) acts
apart_screen folder [] h = tt
apart_screen folder (act ∷ acts) h = (at act.subject h.0, apart_screen folder acts h.1)
  where
    at : (subject : Subject) → is_of_quota subject ≡ true → same_subject subject (Screen folder) ≡ false
    at (Quota its percent) is = refl
    at (Screen its) is = absurd (cc is)

apart_quota : (folder percent : ℕ) (acts : List Act) → AllByRecursion IsOfScreen acts → AllByRecursion (IsOther (Quota folder percent)) acts
apart_quota folder percent [] h = tt
apart_quota folder percent (act ∷ acts) h = (at act.subject h.0, apart_quota folder percent acts h.1)
  where
    at : (subject : Subject) → is_of_quota subject ≡ false → same_subject subject (Quota folder percent) ≡ false
    at (Quota its other) is = absurd (cc is)
    at (Screen its) is = refl

pub screens_unrun : (moment : ℕ) (acts : List Act) (screens : List ScreenRow) → AllByRecursion IsOfQuota acts → map (run_screen moment acts) screens ≡ screens
screens_unrun moment acts screens h =
    map_id (run_screen moment acts) screens
    (each (λ s. run_screen moment acts s ≡ s) (λ s. ap (λ actions. record s { actions = actions }) (unrun_others moment acts (Screen s.folder) s.actions (apart_screen s.folder acts h))) screens)

pub quotas_unrun : (moment : ℕ) (acts : List Act) (quotas : List QuotaRow) → AllByRecursion IsOfScreen acts → map (run_quota moment acts) quotas ≡ quotas
quotas_unrun moment acts quotas h =
    map_id (run_quota moment acts) quotas (each (λ q. run_quota moment acts q ≡ q) unrun quotas)
  where
    one : (folder : ℕ) (t : Threshold) → run_threshold moment acts folder t ≡ t
    one folder t = ap (λ actions. record t { actions = actions }) (unrun_others moment acts (Quota folder t.percent) t.actions (apart_quota folder t.percent acts h))

    unrun : (q : QuotaRow) → run_quota moment acts q ≡ q
    unrun q =
        ap (λ thresholds. record q { thresholds = thresholds })
        (map_id (run_threshold moment acts q.folder) q.thresholds (each (λ t. run_threshold moment acts q.folder t ≡ t) (one q.folder) q.thresholds))

-- the acts of a screen
pub of_screen_due : (run_limit moment : ℕ) (screen : ScreenRow) → AllByRecursion IsOfScreen (due_screen run_limit moment screen)
of_screen_due run_limit moment screen = ready_of IsOfScreen run_limit moment (Screen screen.folder) screen.actions (λ act is. ap is_of_quota is)
