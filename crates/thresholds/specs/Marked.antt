-- Marks: which actions of quotas and of a screen ran and are to be handed out, and the log of those that ran.
use Rattle.std.specs.Prelude.{ℕ, ◌*◌, ◌/◌, ◌%◌, Bool, List, ◌++◌, slice_get, is_some, Option, option_map}
use Rattle.std.specs.List.{list_all, filter_map}
use Rattle.std.specs.Option.{option_and_then}
use Rattle.fsrm_base.specs.Keyed.{row_of}
use Rattle.fsrm_model.specs.declared.command.Act.{Act}
use Rattle.fsrm_model.specs.declared.command.Subject.TheVariants.{Quota, Screen}
use Rattle.fsrm_model.specs.declared.row.ActRow.{ActRow}
use Rattle.fsrm_model.specs.declared.row.Action.{Action}
use Rattle.fsrm_model.specs.declared.row.QuotaRow.{QuotaRow}
use Rattle.fsrm_model.specs.declared.row.ScreenRow.{ScreenRow}
use Rattle.fsrm_model.specs.declared.row.Threshold.{Threshold}
use Rattle.fsrm_model.specs.objects.DueActions.{act_of}
use Rattle.fsrm_model.specs.values.Limits.{most_quotas, most_thresholds, most_actions}
use Rattle.fsrm_model.specs.objects.Screens.{screen_folder}
use Rattle.fsrm_objects.specs.Tables.{Tables}

-- what marks are to their callers: the numbers of the marked actions of quotas, ascending, and the log, the oldest entry first.
-- A command is judged by one screen at most, so those marked of screens are of one folder's: their places, ascending
pub record Marked : Type 0 where
  pub numbers : List ℕ
  pub log : List ActRow
  pub folder : ℕ
  pub places : List ℕ

-- ---- the number of an action
-- how many actions a quota may have, and how many there may be of all quotas
abbrev pub most_of_quota : ℕ
most_of_quota = most_thresholds * most_actions

abbrev pub most_marks : ℕ
most_marks = most_quotas * most_of_quota

-- In an action's number stand, as its digits, the places of its quota among all quotas, of its threshold among those of the
-- quota, and its own among those of the threshold
abbrev pub quota_place : ℕ → ℕ
quota_place number = number / most_of_quota

abbrev pub threshold_place : ℕ → ℕ
threshold_place number = number % most_of_quota / most_actions

abbrev pub action_place : ℕ → ℕ
action_place number = number % most_actions

-- the action of a number
abbrev pub action_of : QuotaRow → ℕ → Option Action
action_of quota number =
    option_and_then (λ (threshold : Threshold). slice_get threshold.actions (action_place number)) (slice_get quota.thresholds (threshold_place number))

abbrev pub action_at : List QuotaRow → ℕ → Option Action
action_at quotas number = option_and_then (λ quota. action_of quota number) (slice_get quotas (quota_place number))

-- its act
abbrev pub act_in : QuotaRow → ℕ → Option Act
act_in quota number =
    option_and_then (λ (threshold : Threshold). option_map (λ action. act_of (Quota quota.folder threshold.percent) (action_place number, action)) (slice_get threshold.actions (action_place number)))
    (slice_get quota.thresholds (threshold_place number))

abbrev pub act_at : List QuotaRow → ℕ → Option Act
act_at quotas number = option_and_then (λ quota. act_in quota number) (slice_get quotas (quota_place number))

-- ---- the marked actions of quotas
-- their acts, in the order of their numbers
abbrev pub waiting : List QuotaRow → List ℕ → List Act
waiting quotas numbers = filter_map (act_at quotas) numbers

-- whether all of them are there
abbrev pub are_there : List QuotaRow → List ℕ → Bool
are_there quotas numbers = list_all (λ number. is_some (act_at quotas number)) numbers

-- ---- the marked actions of a screen
-- the action at a place of a folder's screen, and its act
abbrev pub screen_action_at : List ScreenRow → ℕ → ℕ → Option Action
screen_action_at screens folder place =
    option_and_then (λ (screen : ScreenRow). slice_get screen.actions place) (row_of screen_folder folder screens)

abbrev pub screen_act_at : List ScreenRow → ℕ → ℕ → Option Act
screen_act_at screens folder place =
    option_and_then (λ (screen : ScreenRow). option_map (λ action. act_of (Screen folder) (place, action)) (slice_get screen.actions place)) (row_of screen_folder folder screens)

-- their acts, in the order of their places
abbrev pub screen_waiting : List ScreenRow → Marked → List Act
screen_waiting screens marked = filter_map (screen_act_at screens marked.folder) marked.places

-- whether all of them are there
abbrev pub are_screen_acts : List ScreenRow → Marked → Bool
are_screen_acts screens marked = list_all (λ place. is_some (screen_act_at screens marked.folder place)) marked.places

-- all acts that wait: those of the screen come first
abbrev pub all_waiting : Tables → Marked → List Act
all_waiting tables marked = screen_waiting tables.screens marked ++ waiting tables.quotas marked.numbers
