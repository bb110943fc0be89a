-- What it is to settle a quota or a screen: its actions that are due run, and are marked.
use Rattle.std.specs.Prelude.{◌≡◌, ℕ, ◌<◌, ◌||◌, ◌&&◌, not, nat_le, Bool, true, List, [], ◌++◌, map, length, slice_get, Option, Some, None, unwrap_or}
use Rattle.std.specs.List.{list_all, list_any}
use Rattle.std.specs.Option.{option_map_or}
use Rattle.fsrm_base.specs.Keyed.{row_of, is_ascending}
use Rattle.fsrm_model.specs.declared.command.Act.{Act}
use Rattle.fsrm_model.specs.declared.command.Subject.{Subject}
use Rattle.fsrm_model.specs.declared.command.Subject.TheVariants.{Quota}
use Rattle.fsrm_model.specs.declared.row.QuotaRow.{QuotaRow}
use Rattle.fsrm_model.specs.declared.row.Threshold.{Threshold}
use Rattle.fsrm_model.specs.objects.Acts.{has_act}
use Rattle.fsrm_model.specs.objects.DueActions.{due_screen, ready_acts, quota_acts}
use Rattle.fsrm_model.specs.values.Limits.{most_quotas}
use Rattle.fsrm_model.specs.objects.Quota.{folder_of}
use Rattle.fsrm_model.specs.objects.Reached.{has_reached, reaches}
use Rattle.fsrm_model.specs.objects.Runs.{run_quota, run_screen, last_entries, entry_of}
use Rattle.fsrm_model.specs.objects.Screens.{screen_folder}
use Rattle.fsrm_model.specs.objects.Thresholds.{percent_of, are_too_many}
use Rattle.fsrm_objects.specs.Tables.{Tables}
use Rattle.thresholds.specs.Marked.{Marked, are_screen_acts, are_there, screen_waiting, waiting}

-- quotas as a store holds them, as far as their actions are told by numbers: in the order of their folders, none too many, each
-- with its thresholds in the order of their percentages, and none too many either
abbrev pub has_orderly_lists : QuotaRow → Bool
has_orderly_lists quota = is_ascending percent_of quota.thresholds && not (are_too_many quota.thresholds)

abbrev pub are_orderly : List QuotaRow → Bool
are_orderly quotas =
    (is_ascending folder_of quotas && nat_le (length quotas) most_quotas) && list_all has_orderly_lists quotas

-- ---- which actions are due
-- whether a quota that used so much before and uses so much now crosses a percentage. Its row was another before, if one is
-- given; None is used if it doesn't count
abbrev pub crosses : Option QuotaRow → Option ℕ → Option ℕ → QuotaRow → ℕ → Bool
crosses before used_before used_after quota percent =
    has_reached quota percent used_after && not (has_reached (unwrap_or before quota) percent used_before)

-- whether a quota that counts, and used so much before and uses so much now, crosses one of its thresholds
abbrev pub crosses_any : QuotaRow → ℕ → ℕ → Bool
crosses_any quota before now =
    list_any (λ threshold. reaches quota.limit threshold.percent (Some now) && not (reaches quota.limit threshold.percent (Some before))) quota.thresholds

-- the acts of a folder's quota that are due then
abbrev pub due_in : Tables → Option QuotaRow → Option ℕ → Option ℕ → ℕ → ℕ → ℕ → List Act
due_in tables before used_before used_after run_limit moment folder =
    option_map_or (λ quota. quota_acts (crosses before used_before used_after quota) run_limit moment quota)
    (row_of folder_of folder tables.quotas) []

-- those of a threshold's actions that may run. It is named by the places of the quota and of itself
abbrev pub ready_in : List QuotaRow → ℕ → ℕ → ℕ → ℕ → List Act
ready_in quotas place threshold run_limit moment =
    option_map_or
    (λ quota. option_map_or (λ (t : Threshold). ready_acts run_limit moment (Quota quota.folder t.percent) t.actions) (slice_get quota.thresholds threshold) [])
    (slice_get quotas place) []

pub record IsThreshold (quotas : List QuotaRow) (place threshold : ℕ) : Type 0 where
  pub quota : QuotaRow
  pub is_there : slice_get quotas place ≡ Some quota
  pub within : threshold < length quota.thresholds

-- the acts of a folder's screen that may run
abbrev pub screen_due : Tables → ℕ → ℕ → ℕ → List Act
screen_due tables run_limit moment folder = option_map_or (due_screen run_limit moment) (row_of screen_folder folder tables.screens) []

-- ---- what is left
-- tables after acts of quotas ran
abbrev pub ran_in : ℕ → List Act → Tables → Tables
ran_in moment acts tables = record tables { quotas = map (run_quota moment acts) tables.quotas }

-- acts of quotas ran at a moment, and are marked beside those that were
pub record Settles (old new : Marked) (before after : Tables) (moment : ℕ) (acts : List Act) : Type 0 where
  pub tables : after ≡ ran_in moment acts before
  pub log : new.log ≡ last_entries (old.log ++ map (entry_of moment) acts)
  pub there : are_there after.quotas new.numbers ≡ true
  pub marked : (subject : Subject) (place : ℕ) → has_act (waiting after.quotas new.numbers) subject place ≡ (has_act (waiting before.quotas old.numbers) subject place || has_act acts subject place)
  pub folder : new.folder ≡ old.folder
  pub places : new.places ≡ old.places

-- acts of one screen ran at a moment, and they alone of all screens' wait
pub record SettlesScreen (old new : Marked) (before after : Tables) (moment : ℕ) (acts : List Act) : Type 0 where
  pub tables : after ≡ record before { screens = map (run_screen moment acts) before.screens }
  pub log : new.log ≡ last_entries (old.log ++ map (entry_of moment) acts)
  pub numbers : new.numbers ≡ old.numbers
  pub there : are_screen_acts after.screens new ≡ true
  pub waiting : screen_waiting after.screens new ≡ acts
