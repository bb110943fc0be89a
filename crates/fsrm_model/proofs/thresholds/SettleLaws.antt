-- What runs of one quota: of all acts that are due only its own matter, and it has none if none of its thresholds is crossed.
use Rattle.std.proofs.Common.{◌≡◌, ℕ, ◌+◌, Bool, true, false, ◌&&◌, List, [], ◌∷◌, refl, sym, ◌∙◌, ap, cond, Some}
use Rattle.std.specs.Prelude.{map, filter, flat_map, if◌then◌else◌}
use Rattle.std.specs.List.{enumerate_from}
use Rattle.std.specs.Option.{option_map_or}
use Rattle.fsrm_model.specs.declared.command.Act.{Act}
use Rattle.fsrm_model.specs.declared.command.Subject.{Subject}
use Rattle.fsrm_model.specs.declared.command.Subject.TheVariants.{Quota}
use Rattle.fsrm_model.specs.declared.row.Action.{Action}
use Rattle.fsrm_model.specs.declared.row.Capacity.{Capacity}
use Rattle.fsrm_model.specs.declared.row.QuotaRow.{QuotaRow}
use Rattle.fsrm_model.specs.declared.row.Rows.{Rows}
use Rattle.fsrm_model.specs.declared.row.Threshold.{Threshold}
use Rattle.fsrm_base.specs.Keyed.{is_ascending}
use Rattle.fsrm_model.specs.objects.Acts.{has_act}
use Rattle.fsrm_model.specs.objects.DueActions.{is_ready_at, ready_acts, quota_acts, due}
use Rattle.fsrm_model.specs.objects.Quota.{quota_of}
use Rattle.fsrm_model.specs.meaning.Raises.{are_ascending}
use Rattle.fsrm_model.specs.objects.Reached.{crossed}
use Rattle.fsrm_model.specs.objects.Runs.{run_threshold, run_quota}
use Rattle.fsrm_model.specs.objects.Thresholds.{percent_of, actions_at}
use Rattle.fsrm_base.proofs.RowLaws.{map_same}
use Rattle.fsrm_base.proofs.TestLaws.{eq_same}
use Rattle.fsrm_model.proofs.thresholds.DueLaws.{each, quota_run, due_run}

-- acts that agree on a subject leave the same of it
same_from : (moment : ℕ) (one other : List Act) (subject : Subject) → ((place : ℕ) → has_act one subject place ≡ has_act other subject place) → (n : ℕ) (actions : List Action) → map (λ (at : ℕ × Action). if has_act one subject at.0 then record at.1 { last_run = Some moment } else at.1) (enumerate_from n actions) ≡ map (λ (at : ℕ × Action). if has_act other subject at.0 then record at.1 { last_run = Some moment } else at.1) (enumerate_from n actions)
same_from moment one other subject same n [] = refl
same_from moment one other subject same n (action ∷ actions) =
    ap (λ b. (if b then record action { last_run = Some moment } else action) ∷ map (λ (at : ℕ × Action). if has_act one subject at.0 then record at.1 { last_run = Some moment } else at.1) (enumerate_from (n + 1) actions)) (same n)
    ∙ ap (λ more. (if has_act other subject n then record action { last_run = Some moment } else action) ∷ more) (same_from moment one other subject same (n + 1) actions)

pub same_runs : (moment : ℕ) (one other : List Act) (quota : QuotaRow) → ((percent place : ℕ) → has_act one (Quota quota.folder percent) place ≡ has_act other (Quota quota.folder percent) place) → run_quota moment one quota ≡ run_quota moment other quota
same_runs moment one other quota same =
    ap (λ thresholds. record quota { thresholds = thresholds })
    (map_same (run_threshold moment one quota.folder) (run_threshold moment other quota.folder) quota.thresholds
    (each (λ t. run_threshold moment one quota.folder t ≡ run_threshold moment other quota.folder t)
    (λ t. ap (λ actions. record t { actions = actions }) (same_from moment one other (Quota quota.folder t.percent) (same t.percent) 0 t.actions)) quota.thresholds))

pub own_runs : (K : Capacity) (before after : Rows) (moment : ℕ) (quota : QuotaRow) → are_ascending after.quotas ≡ true → is_ascending percent_of quota.thresholds ≡ true → quota_of after quota.folder ≡ Some quota → run_quota moment (due K before after moment) quota ≡ run_quota moment (quota_acts (crossed K before after quota.folder) after.run_limit moment quota) quota
own_runs K before after moment quota a asc there =
    same_runs moment (due K before after moment) (quota_acts (crossed K before after quota.folder) after.run_limit moment quota) quota same
  where
    same : (percent place : ℕ) → has_act (due K before after moment) (Quota quota.folder percent) place ≡ has_act (quota_acts (crossed K before after quota.folder) after.run_limit moment quota) (Quota quota.folder percent) place
    same percent place =
        let raises = crossed K before after quota.folder percent in
        due_run K before after moment quota.folder percent place a
        ∙ (ap (λ o. raises && is_ready_at after.run_limit moment (option_map_or (λ q. actions_at q.thresholds percent) o []) place) there
        ∙ (ap (λ b. b && (raises && is_ready_at after.run_limit moment (actions_at quota.thresholds percent) place)) (sym (eq_same quota.folder))
        ∙ sym (quota_run (crossed K before after quota.folder) after.run_limit moment quota quota.folder percent place asc)))

-- a quota of which no threshold passes has no acts
pub no_acts : (passes : ℕ → Bool) (run_limit moment : ℕ) (quota : QuotaRow) → ((percent : ℕ) → passes percent ≡ false) → quota_acts passes run_limit moment quota ≡ []
no_acts passes run_limit moment quota h = ap (flat_map (λ t. ready_acts run_limit moment (Quota quota.folder t.percent) t.actions)) (none quota.thresholds)
  where
    none : (thresholds : List Threshold) → filter (λ t. passes t.percent) thresholds ≡ []
    none [] = refl
    none (t ∷ thresholds) = ap (λ b. cond b (t ∷ filter (λ t. passes t.percent) thresholds) (filter (λ t. passes t.percent) thresholds)) (h t.percent) ∙ none thresholds
