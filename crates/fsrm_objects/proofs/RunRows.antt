-- Actions of which one ran, and the bytes of their texts.
use Rattle.std.proofs.Common.{◌≡◌, ℕ, zero, suc, ◌+◌, ◌<◌, ◌==◌, Bool, true, false, cond, List, [], ◌∷◌, length, Option, Some, None, Result, Ok, Err, refl, sym, ◌∙◌, ap, arith}
use Rattle.std.proofs.lemmas.List.Sums.{sum_by-cons}
use Rattle.std.proofs.lemmas.Option.{same_Some}
use Rattle.std.specs.Prelude.{slice_get, slice_set, IfErr, is_ok}
use Rattle.std.specs.Option.{option_map_or}
use Rattle.fsrm_base.specs.Keyed.{has_row, row_of, with_change}
use Rattle.fsrm_base.specs.Places.{IsGap}
use Rattle.fsrm_base.proofs.Look.{found_has}
use Rattle.fsrm_base.proofs.TestLaws.{clash}
use Rattle.fsrm_model.specs.declared.row.Action.{Action}
use Rattle.fsrm_model.specs.declared.row.QuotaRow.{QuotaRow}
use Rattle.fsrm_model.specs.declared.row.Threshold.{Threshold}
use Rattle.fsrm_model.specs.values.Texts.{action_bytes, quota_bytes, threshold_bytes}
use Rattle.fsrm_model.specs.objects.Thresholds.{actions_at, percent_of}
use Rattle.fsrm_objects.specs.Tables.{ran_at, run_threshold_at, run_quota_at}

-- the action at a place, changed there
pub set_ran : (moment place : ℕ) (actions : List Action) (action : Action) → slice_get actions place ≡ Some action → slice_set actions place (record action { last_run = Some moment }) ≡ ran_at moment place actions
set_ran moment place [] action is = refl
set_ran moment zero (a ∷ actions) action is = ap (λ (x : Action). record x { last_run = Some moment } ∷ actions) (sym (same_Some a action is))
set_ran moment (suc place) (a ∷ actions) action is = ap (λ more. a ∷ more) (set_ran moment place actions action is)

-- ---- a run changes no text
pub action_run : (moment place : ℕ) (actions : List Action) → action_bytes (ran_at moment place actions) ≡ action_bytes actions
action_run moment place [] = refl
action_run moment zero (action ∷ actions) =
    sum_by-cons (λ (a : Action). length a.text) (record action { last_run = Some moment }) actions
    ∙ sym (sum_by-cons (λ (a : Action). length a.text) action actions)
action_run moment (suc place) (action ∷ actions) =
    sum_by-cons (λ (a : Action). length a.text) action (ran_at moment place actions)
    ∙ (ap (λ n. length action.text + n) (action_run moment place actions) ∙ sym (sum_by-cons (λ (a : Action). length a.text) action actions))

thresholds_run : (moment percent place : ℕ) (thresholds : List Threshold) → threshold_bytes (with_change percent_of percent (run_threshold_at moment place) thresholds) ≡ threshold_bytes thresholds
thresholds_run moment percent place [] = refl
thresholds_run moment percent place (t ∷ thresholds) =
    let run = λ (r : Threshold). cond (r.percent == percent) (run_threshold_at moment place r) r in
    sum_by-cons (λ (r : Threshold). action_bytes r.actions) (run t) (with_change percent_of percent (run_threshold_at moment place) thresholds)
    ∙ (ap (λ n. n + threshold_bytes (with_change percent_of percent (run_threshold_at moment place) thresholds)) (one (t.percent == percent))
    ∙ (ap (λ n. action_bytes t.actions + n) (thresholds_run moment percent place thresholds) ∙ sym (sum_by-cons (λ (r : Threshold). action_bytes r.actions) t thresholds)))
  where
    one : (b : Bool) → action_bytes (cond b (run_threshold_at moment place t) t).actions ≡ action_bytes t.actions
    one true = action_run moment place t.actions
    one false = refl

pub run_bytes : (moment percent place : ℕ) (quota : QuotaRow) → quota_bytes (run_quota_at moment percent place quota) ≡ quota_bytes quota
run_bytes moment percent place quota = thresholds_run moment percent place quota.thresholds

-- ---- a percentage that has an action is there
pub has_actions : (thresholds : List Threshold) (percent place : ℕ) → place < length (actions_at thresholds percent) → has_row percent_of percent thresholds ≡ true
has_actions thresholds percent place h = at (row_of percent_of percent thresholds) refl h
  where
    at : (o : Option Threshold) → row_of percent_of percent thresholds ≡ o → place < length (option_map_or (λ (t : Threshold). t.actions) o []) → has_row percent_of percent thresholds ≡ true
    at None e h = absurd (omega (arith, h))
    at (Some t) e h = found_has percent_of percent thresholds t e

-- so its place is found
pub placed : (thresholds : List Threshold) (percent : ℕ) (r : Result ℕ ℕ) → has_row percent_of percent thresholds ≡ true → IfErr r (IsGap percent_of percent thresholds) → is_ok r ≡ true
placed thresholds percent (Ok at) there free = refl
placed thresholds percent (Err at) there free = absurd (clash (has_row percent_of percent thresholds) there free.absent)
