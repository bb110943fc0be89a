-- The fields of entries: how each value is spelled, and which are legal.
use Rattle.std.specs.Prelude.{ℕ, ◌-◌, ◌^◌, ◌==◌, nat_le, Bool, true, ℤ, pos, negsuc, List, ◌++◌, Option, Some, None, Ok, Err, is_none, bytes_eq, codes, if◌then◌else◌}
use Rattle.std.specs.List.{join_with_byte}
use Rattle.fsrm_model.specs.declared.command.Added.{Added}
use Rattle.fsrm_model.specs.declared.row.Action.{Action}
use Rattle.fsrm_model.specs.declared.row.ActionKind.{ActionKind}
use Rattle.fsrm_model.specs.declared.row.ActionKind.TheVariants.{Event, Mail, Program, Report}
use Rattle.fsrm_model.specs.declared.row.ReportKind.{ReportKind}
use Rattle.fsrm_model.specs.declared.row.ReportKind.TheVariants.{LargeFiles, FilesByType, LeastRecentlyAccessed, MostRecentlyAccessed, QuotaUsage, FilesByOwner, DuplicateFiles, FileScreenAudit}
use Rattle.fsrm_model.specs.commands.Entry.{Path}
use Rattle.fsrm_model.specs.values.Limits.{latest_moment, last_owner, longest_file, least_limit, greatest_limit, greatest_percent, most_minutes, most_patterns, most_excluded, most_days, most_use, most_rows}
use Rattle.fsrm_model.specs.values.Name.{is_name}
use Rattle.fsrm_model.specs.values.Patterns.{is_object_name, is_pattern}
use Rattle.fsrm_model.specs.lines.Reading.{Read, path_from}
use Rattle.fsrm_model.specs.objects.Jobs.{is_schedule}
use Rattle.fsrm_model.specs.objects.Thresholds.{is_action_text, are_minutes}
use Rattle.fsrm_model.specs.store.Valued.{is_path}
use Rattle.record_fields.specs.Formats.{Format, number, number_within, text, standing, shaped, tested, choice, ◌⊗◌, listed}

-- ---- numbers
abbrev pub moment : Format ℕ
moment = number_within 8 0 latest_moment

abbrev pub owner : Format ℕ
owner = number_within 8 1 last_owner

abbrev pub file_length : Format ℕ
file_length = number_within 8 0 longest_file

abbrev pub limit : Format ℕ
limit = number_within 8 least_limit greatest_limit

abbrev pub percent : Format ℕ
percent = number_within 8 1 greatest_percent

abbrev pub run_limit : Format ℕ
run_limit = number_within 8 0 most_minutes

-- how many days a report looks back, the least percentage of a limit that it shows, and how many rows it may have
abbrev pub days : Format ℕ
days = number_within 8 0 most_days

abbrev pub least_use : Format ℕ
least_use = number_within 8 0 most_use

abbrev pub row_count : Format ℕ
row_count = number_within 8 1 most_rows

-- a folder's number
abbrev pub folder : Format ℕ
folder = number_within 8 0 (2 ^ 32 - 1)

-- minutes, or 2 ^ 64 - 1 for -1
abbrev pub minutes_of : ℕ → Option ℤ
minutes_of n = if nat_le n most_minutes then Some (pos n) else if n == 2 ^ 64 - 1 then Some (negsuc 0) else None

abbrev pub minutes_code : ℤ → ℕ
minutes_code (pos n) = n
minutes_code (negsuc n) = 2 ^ 64 - 1

abbrev pub minutes : Format ℤ
minutes = standing minutes_of minutes_code are_minutes (number 8)

-- what an action does, in one byte
abbrev pub action_kind_of : ℕ → Option ActionKind
action_kind_of n =
    if n == 1 then Some Event
    else if n == 2 then Some Mail
    else if n == 3 then Some Program
    else if n == 4 then Some Report else None

abbrev pub action_kind_code : ActionKind → ℕ
action_kind_code Event = 1
action_kind_code Mail = 2
action_kind_code Program = 3
action_kind_code Report = 4

abbrev pub action_kind : Format ActionKind
action_kind = choice action_kind_of action_kind_code (λ k. true)

-- what a report is about, in one byte
abbrev pub report_kind_of : ℕ → Option ReportKind
report_kind_of n =
    if n == 1 then Some LargeFiles
    else if n == 2 then Some FilesByType
    else if n == 3 then Some LeastRecentlyAccessed
    else if n == 4 then Some MostRecentlyAccessed
    else if n == 5 then Some QuotaUsage
    else if n == 6 then Some FilesByOwner
    else if n == 7 then Some DuplicateFiles
    else if n == 8 then Some FileScreenAudit else None

abbrev pub report_kind_code : ReportKind → ℕ
report_kind_code LargeFiles = 1
report_kind_code FilesByType = 2
report_kind_code LeastRecentlyAccessed = 3
report_kind_code MostRecentlyAccessed = 4
report_kind_code QuotaUsage = 5
report_kind_code FilesByOwner = 6
report_kind_code DuplicateFiles = 7
report_kind_code FileScreenAudit = 8

abbrev pub report_kind : Format ReportKind
report_kind = choice report_kind_of report_kind_code (λ k. true)

-- ---- texts
abbrev pub object_name : Format (List ℕ)
object_name = tested is_object_name text

abbrev pub name : Format (List ℕ)
name = tested is_name text

abbrev pub pattern : Format (List ℕ)
pattern = tested is_pattern text

abbrev pub action_text : Format (List ℕ)
action_text = tested is_action_text text

abbrev pub schedule : Format (List ℕ)
schedule = tested is_schedule text

-- a path is spelled D:\ and its names, without a last backslash
abbrev pub path_text : Path → List ℕ
path_text names = codes "D:\\" ++ join_with_byte 92 names

abbrev pub if_spelled : List ℕ → Path → Option Path
if_spelled given names = if bytes_eq given (path_text names) then Some names else None

-- a text that is read as a path, if it is spelled as this one is
abbrev pub if_read : List ℕ → Read Path → Option Path
if_read given (Ok names) = if_spelled given names
if_read given (Err refusal) = None

unfoldable pub path_of : List ℕ → Option Path
path_of given = if_read given (path_from given)

abbrev pub path : Format Path
path = standing path_of path_text is_path text

-- ---- lists
abbrev pub many : {X : Type 0} → Format X → Format (List X)
many f = listed (number_within 2 0 65535) f

-- one at least
abbrev pub at_least_one : {X : Type 0} → Format X → Format (List X)
at_least_one f = listed (number_within 2 1 65535) f

abbrev pub members : Format (List (List ℕ))
members = listed (number_within 2 1 most_patterns) pattern

abbrev pub non_members : Format (List (List ℕ))
non_members = listed (number_within 2 0 most_patterns) pattern

abbrev pub excluded_names : Format (List (List ℕ))
excluded_names = listed (number_within 2 0 most_excluded) name

-- ---- actions and notifications
-- an action that never ran
abbrev pub new_action : ActionKind × (ℤ × List ℕ) → Action
new_action v = record { kind = v.0; minutes = v.1.0; text = v.1.1; last_run = None }

abbrev pub action_parts : Action → ActionKind × (ℤ × List ℕ)
action_parts a = (a.kind, (a.minutes, a.text))

abbrev pub is_new : Action → Bool
is_new a = is_none a.last_run

abbrev pub action_values : Format (ActionKind × (ℤ × List ℕ))
action_values = action_kind ⊗ minutes ⊗ action_text

abbrev pub action : Format Action
action = standing (λ v. Some (new_action v)) action_parts is_new action_values

-- one of a threshold
abbrev pub new_notice : ℕ × Action → Added
new_notice v = record { percent = v.0; action = v.1 }

abbrev pub notice_parts : Added → ℕ × Action
notice_parts n = (n.percent, n.action)

abbrev pub notice : Format Added
notice = shaped new_notice notice_parts (percent ⊗ action)
