-- The action of an act, found by its quota and its threshold, or by its screen.
use Rattle.std.proofs.Common.{◌≡◌, ℕ, true, false, [], Option, Some, None, refl, slice_get}
use Rattle.std.specs.Option.{option_map_or}
use Rattle.fsrm_base.specs.Keyed.{row_of}
use Rattle.fsrm_model.specs.declared.command.Act.{Act}
use Rattle.fsrm_model.specs.declared.command.Subject.{Subject}
use Rattle.fsrm_model.specs.declared.command.Subject.TheVariants.{Quota, Screen}
use Rattle.fsrm_model.specs.declared.row.Action.{Action}
use Rattle.fsrm_model.specs.declared.row.QuotaRow.{QuotaRow}
use Rattle.fsrm_model.specs.declared.row.ScreenRow.{ScreenRow}
use Rattle.fsrm_model.specs.declared.row.Threshold.{Threshold}
use Rattle.fsrm_model.specs.objects.Acts.{folder_in, percent_in, is_of_quota}
use Rattle.fsrm_model.specs.objects.Quota.{folder_of}
use Rattle.fsrm_model.specs.objects.Screens.{screen_folder}
use Rattle.fsrm_model.specs.objects.Thresholds.{actions_at, percent_of}
use Rattle.fsrm_objects.specs.Tables.{Tables}
use Rattle.fsrm_parts.specs.Acts.{actions_in, IsActOf}

pub record QuotaAct (tables : Tables) (subject : Subject) (place : ℕ) : Type 0 where
  pub quota : QuotaRow
  pub quota_is : row_of folder_of (folder_in subject) tables.quotas ≡ Some quota
  pub threshold : Threshold
  pub threshold_is : row_of percent_of (percent_in subject) quota.thresholds ≡ Some threshold
  pub action : Action
  pub action_is : slice_get threshold.actions place ≡ Some action
  pub in_it : slice_get (actions_in tables subject) place ≡ Some action

quota_act_of : (tables : Tables) (subject : Subject) (place : ℕ) (action : Action) → is_of_quota subject ≡ true → slice_get (actions_in tables subject) place ≡ Some action → QuotaAct tables subject place
quota_act_of tables (Screen folder) place action kind there = cc kind
quota_act_of tables (Quota folder percent) place action kind there = at (row_of folder_of folder tables.quotas) refl there
  where
    inner : (quota : QuotaRow) → row_of folder_of folder tables.quotas ≡ Some quota → (o : Option Threshold) → row_of percent_of percent quota.thresholds ≡ o → slice_get (option_map_or (λ (t : Threshold). t.actions) o []) place ≡ Some action → QuotaAct tables (Quota folder percent) place
    inner quota e None f t = cc t
    inner quota e (Some threshold) f t =
        record { quota = quota; quota_is = e; threshold = threshold; threshold_is = f; action = action; action_is = t; in_it = there }

    at : (o : Option QuotaRow) → row_of folder_of folder tables.quotas ≡ o → slice_get (option_map_or (λ (quota : QuotaRow). actions_at quota.thresholds percent) o []) place ≡ Some action → QuotaAct tables (Quota folder percent) place
    at None e t = cc t
    at (Some quota) e t = inner quota e (row_of percent_of percent quota.thresholds) refl t

pub quota_act : (tables : Tables) (act : Act) → is_of_quota act.subject ≡ true → IsActOf tables act → QuotaAct tables act.subject act.place
quota_act tables act kind is = quota_act_of tables act.subject act.place is.action kind is.there

-- ---- of a screen
pub record ScreenAct (tables : Tables) (subject : Subject) (place : ℕ) : Type 0 where
  pub screen : ScreenRow
  pub screen_is : row_of screen_folder (folder_in subject) tables.screens ≡ Some screen
  pub action : Action
  pub action_is : slice_get screen.actions place ≡ Some action
  pub in_it : slice_get (actions_in tables subject) place ≡ Some action

screen_act_of : (tables : Tables) (subject : Subject) (place : ℕ) (action : Action) → is_of_quota subject ≡ false → slice_get (actions_in tables subject) place ≡ Some action → ScreenAct tables subject place
screen_act_of tables (Quota folder percent) place action kind there = cc kind
screen_act_of tables (Screen folder) place action kind there = at (row_of screen_folder folder tables.screens) refl there
  where
    at : (o : Option ScreenRow) → row_of screen_folder folder tables.screens ≡ o → slice_get (option_map_or (λ (screen : ScreenRow). screen.actions) o []) place ≡ Some action → ScreenAct tables (Screen folder) place
    at None e t = cc t
    at (Some screen) e t = record { screen = screen; screen_is = e; action = action; action_is = t; in_it = there }

pub screen_act : (tables : Tables) (act : Act) → is_of_quota act.subject ≡ false → IsActOf tables act → ScreenAct tables act.subject act.place
screen_act tables act kind is = screen_act_of tables act.subject act.place is.action kind is.there
