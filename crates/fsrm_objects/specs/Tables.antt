-- The tables of objects, and why a row is refused.
use Rattle.std.specs.Prelude.{◌≡◌, ℕ, zero, suc, ◌+◌, ◌<◌, ◌==◌, ◌||◌, nat_lt, nat_le, Bool, true, List, [], ◌∷◌, length, filter, sum_by, Option, Some, None, is_some}
use Rattle.std.specs.List.{list_all}
use Rattle.std.specs.Option.{option_map_or}
use Rattle.fsrm_base.specs.Causes.{◌when◌, first}
use Rattle.fsrm_base.specs.Keyed.{has_row, least_free, row_of, is_ascending, with_row, with_change, without_row}
use Rattle.fsrm_model.specs.declared.row.Action.{Action}
use Rattle.fsrm_model.specs.declared.row.ExceptRow.{ExceptRow}
use Rattle.fsrm_model.specs.declared.row.JobRow.{JobRow}
use Rattle.fsrm_model.specs.declared.row.QuotaRow.{QuotaRow}
use Rattle.fsrm_model.specs.declared.row.QuotaState.{QuotaState}
use Rattle.fsrm_model.specs.declared.row.ScreenRow.{ScreenRow}
use Rattle.fsrm_model.specs.declared.row.Threshold.{Threshold}
use Rattle.fsrm_model.specs.values.Limits.{most_quotas, most_screens, most_excepts, most_jobs, most_screen_groups, most_actions, longest_action_text}
use Rattle.fsrm_model.specs.objects.Jobs.{is_elsewhere, job_named, job_number, run_job}
use Rattle.fsrm_model.specs.objects.Quota.{folder_of}
use Rattle.fsrm_model.specs.objects.QuotaStates.{in_state}
use Rattle.fsrm_model.specs.objects.Screens.{screen_folder, except_folder}
use Rattle.fsrm_model.specs.values.Texts.{action_bytes, job_bytes, quota_bytes}
use Rattle.fsrm_model.specs.objects.Thresholds.{percent_of, actions_at, are_too_many}
use Rattle.fsrm_objects.specs.declared.answer.ObjectFault.{ObjectFault}
use Rattle.fsrm_objects.specs.declared.answer.ObjectFault.TheVariants.{AlreadyExists, InvalidCombination, DuplicateName, OutOfRange, TableFull, TextsFull, NoMemory}

-- the rows of each table, and for how many quotas there is memory in any case
pub record Tables : Type 0 where
  pub quotas : List QuotaRow
  pub screens : List ScreenRow
  pub excepts : List ExceptRow
  pub jobs : List JobRow
  pub room : ℕ

-- the bytes of the texts that quotas, screens and report jobs hold, and of those of all tables
abbrev pub quota_texts : List QuotaRow → ℕ
quota_texts quotas = sum_by quota_bytes quotas

abbrev pub screen_bytes : ScreenRow → ℕ
screen_bytes screen = action_bytes screen.actions

abbrev pub screen_texts : List ScreenRow → ℕ
screen_texts screens = sum_by screen_bytes screens

abbrev pub job_texts : List JobRow → ℕ
job_texts jobs = sum_by job_bytes jobs

abbrev pub texts_in : Tables → ℕ
texts_in tables = quota_texts tables.quotas + screen_texts tables.screens + job_texts tables.jobs

-- ---- refusals
-- a fault is the one that is due; it is for want of memory only if none is due
abbrev pub IsFault : ObjectFault → Option ObjectFault → Type 0
IsFault AlreadyExists due = due ≡ Some AlreadyExists
IsFault InvalidCombination due = due ≡ Some InvalidCombination
IsFault DuplicateName due = due ≡ Some DuplicateName
IsFault OutOfRange due = due ≡ Some OutOfRange
IsFault TableFull due = due ≡ Some TableFull
IsFault TextsFull due = due ≡ Some TextsFull
IsFault NoMemory due = due ≡ None

-- whether no text of a quota's actions is longer than it may be
abbrev pub is_short : Action → Bool
is_short action = nat_le (length action.text) longest_action_text

abbrev pub has_short_texts : QuotaRow → Bool
has_short_texts row = list_all (λ threshold. list_all is_short threshold.actions) row.thresholds

-- why a quota can't be added, if so many bytes of texts may still come
abbrev pub quota_fault : Tables → QuotaRow → ℕ → Option ObjectFault
quota_fault tables row room =
    first ((AlreadyExists when has_row folder_of row.folder tables.quotas)
    ∷ (OutOfRange when are_too_many row.thresholds)
    ∷ (TableFull when nat_le most_quotas (length tables.quotas))
    ∷ (TextsFull when nat_lt room (quota_bytes row)) ∷ [])

-- the bytes of the texts of a folder's quota
abbrev pub texts_at : Tables → ℕ → ℕ
texts_at tables folder = option_map_or quota_bytes (row_of folder_of folder tables.quotas) 0

-- why a quota can't take the place of its folder's, whose texts it replaces
abbrev pub other_fault : Tables → QuotaRow → ℕ → Option ObjectFault
other_fault tables row room =
    first ((OutOfRange when are_too_many row.thresholds)
    ∷ (TextsFull when nat_lt (room + texts_at tables row.folder) (quota_bytes row)) ∷ [])

-- ---- edits
-- tables with one more quota, with another row for a folder, with another peak or state, without a folder's quota
abbrev pub with_quota : Tables → QuotaRow → Tables
with_quota tables row = record tables { quotas = with_row folder_of row tables.quotas }

abbrev pub with_other : Tables → QuotaRow → Tables
with_other tables row = record tables { quotas = with_change folder_of row.folder (λ old. row) tables.quotas }

abbrev pub peaked_at : ℕ → ℕ → QuotaRow → QuotaRow
peaked_at peak moment quota = record quota { peak = peak; peak_at = moment }

abbrev pub with_peak : Tables → ℕ → ℕ → ℕ → Tables
with_peak tables folder peak moment = record tables { quotas = with_change folder_of folder (peaked_at peak moment) tables.quotas }

abbrev pub with_state : Tables → ℕ → QuotaState → Tables
with_state tables folder state = record tables { quotas = with_change folder_of folder (in_state state) tables.quotas }

abbrev pub without_quota : Tables → ℕ → Tables
without_quota tables folder = record tables { quotas = without_row folder_of folder tables.quotas }

-- actions of which the one at a place ran at a moment, and a quota of which the one at a place of a percentage did
abbrev pub ran_at : ℕ → ℕ → List Action → List Action
ran_at moment place [] = []
ran_at moment zero (action ∷ actions) = record action { last_run = Some moment } ∷ actions
ran_at moment (suc place) (action ∷ actions) = action ∷ ran_at moment place actions

abbrev pub run_threshold_at : ℕ → ℕ → Threshold → Threshold
run_threshold_at moment place threshold = record threshold { actions = ran_at moment place threshold.actions }

abbrev pub run_quota_at : ℕ → ℕ → ℕ → QuotaRow → QuotaRow
run_quota_at moment percent place quota =
    record quota { thresholds = with_change percent_of percent (run_threshold_at moment place) quota.thresholds }

abbrev pub with_run : Tables → ℕ → ℕ → ℕ → ℕ → Tables
with_run tables folder percent place moment =
    record tables { quotas = with_change folder_of folder (run_quota_at moment percent place) tables.quotas }

-- a folder has a quota whose percentages ascend, and one of these has an action at a place
pub record HasAction (tables : Tables) (folder percent place : ℕ) : Type 0 where
  pub quota : QuotaRow
  pub is_there : row_of folder_of folder tables.quotas ≡ Some quota
  pub ascending : is_ascending percent_of quota.thresholds ≡ true
  pub within : place < length (actions_at quota.thresholds percent)

-- ---- screens and exceptions
abbrev pub has_short_actions : ScreenRow → Bool
has_short_actions row = list_all is_short row.actions

-- the lists of a screen that are too long
abbrev pub is_long_screen : ScreenRow → Bool
is_long_screen row = nat_lt most_screen_groups (length row.groups) || nat_lt most_actions (length row.actions)

-- why a screen can't be added, if so many bytes of texts may still come
abbrev pub screen_fault : Tables → ScreenRow → ℕ → Option ObjectFault
screen_fault tables row room =
    first ((AlreadyExists when has_row screen_folder row.folder tables.screens)
    ∷ (InvalidCombination when (has_row except_folder row.folder tables.excepts || (length row.groups == 0)))
    ∷ (OutOfRange when is_long_screen row)
    ∷ (TableFull when nat_le most_screens (length tables.screens))
    ∷ (TextsFull when nat_lt room (screen_bytes row)) ∷ [])

abbrev pub screen_texts_at : Tables → ℕ → ℕ
screen_texts_at tables folder = option_map_or screen_bytes (row_of screen_folder folder tables.screens) 0

-- why a screen can't take the place of its folder's, whose texts it replaces
abbrev pub other_screen_fault : Tables → ScreenRow → ℕ → Option ObjectFault
other_screen_fault tables row room =
    first ((InvalidCombination when (length row.groups == 0))
    ∷ (OutOfRange when is_long_screen row)
    ∷ (TextsFull when nat_lt (room + screen_texts_at tables row.folder) (screen_bytes row)) ∷ [])

-- why an exception can't be added
abbrev pub except_fault : Tables → ExceptRow → Option ObjectFault
except_fault tables row =
    first ((AlreadyExists when has_row except_folder row.folder tables.excepts)
    ∷ (InvalidCombination when (has_row screen_folder row.folder tables.screens || (length row.groups == 0)))
    ∷ (OutOfRange when nat_lt most_screen_groups (length row.groups))
    ∷ (TableFull when nat_le most_excepts (length tables.excepts)) ∷ [])

-- tables with one more screen, with another row for a folder, without a folder's screen, with a run of one of its actions
abbrev pub with_screen : Tables → ScreenRow → Tables
with_screen tables row = record tables { screens = with_row screen_folder row tables.screens }

abbrev pub with_other_screen : Tables → ScreenRow → Tables
with_other_screen tables row = record tables { screens = with_change screen_folder row.folder (λ old. row) tables.screens }

abbrev pub without_screen : Tables → ℕ → Tables
without_screen tables folder = record tables { screens = without_row screen_folder folder tables.screens }

abbrev pub run_screen_at : ℕ → ℕ → ScreenRow → ScreenRow
run_screen_at moment place screen = record screen { actions = ran_at moment place screen.actions }

abbrev pub with_screen_run : Tables → ℕ → ℕ → ℕ → Tables
with_screen_run tables folder place moment =
    record tables { screens = with_change screen_folder folder (run_screen_at moment place) tables.screens }

-- with one more exception, and without a folder's
abbrev pub with_except : Tables → ExceptRow → Tables
with_except tables row = record tables { excepts = with_row except_folder row tables.excepts }

abbrev pub without_except : Tables → ℕ → Tables
without_except tables folder = record tables { excepts = without_row except_folder folder tables.excepts }

-- a folder has a screen that has an action at a place
pub record HasScreenAction (tables : Tables) (folder place : ℕ) : Type 0 where
  pub screen : ScreenRow
  pub is_there : row_of screen_folder folder tables.screens ≡ Some screen
  pub within : place < length screen.actions

-- ---- report jobs
-- why a job can't be added, if so many bytes of texts may still come
abbrev pub job_fault : Tables → JobRow → ℕ → Option ObjectFault
job_fault tables row room =
    first ((DuplicateName when is_some (job_named tables.jobs row.name))
    ∷ (TableFull when nat_le most_jobs (length tables.jobs))
    ∷ (TextsFull when nat_lt room (job_bytes row)) ∷ [])

-- a job under the number that it gets
abbrev pub numbered : List JobRow → JobRow → JobRow
numbered jobs row = record row { number = least_free job_number jobs }

-- tables with one more job, with a run of one at a moment, without that of a number, and without those that report on a folder
abbrev pub with_job : Tables → JobRow → Tables
with_job tables row = record tables { jobs = with_row job_number row tables.jobs }

abbrev pub with_job_run : Tables → ℕ → ℕ → Tables
with_job_run tables number moment = record tables { jobs = with_change job_number number (run_job moment) tables.jobs }

abbrev pub without_job : Tables → ℕ → Tables
without_job tables number = record tables { jobs = without_row job_number number tables.jobs }

abbrev pub without_jobs : Tables → ℕ → Tables
without_jobs tables folder = record tables { jobs = filter (is_elsewhere folder) tables.jobs }
