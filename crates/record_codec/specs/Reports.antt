-- Entries of commands on report jobs.
use Rattle.std.specs.Prelude.{ℕ, ◌==◌, ◌&&◌, Bool, true, List, [], ◌++◌, Option, Some, None, if◌then◌else◌}
use Rattle.std.specs.Option.{option_map_or}
use Rattle.std.specs.Str.{is_utf8}
use Rattle.fsrm_model.specs.commands.Entry.{Path}
use Rattle.fsrm_model.specs.declared.command.NewJob.{NewJob}
use Rattle.fsrm_model.specs.declared.command.ReportsDeed.{ReportsDeed}
use Rattle.fsrm_model.specs.declared.command.ReportsDeed.TheVariants.{Add as ReportsAdd, Delete as ReportsDelete, Run as ReportsRun}
use Rattle.fsrm_model.specs.declared.row.Filter.{Filter}
use Rattle.fsrm_model.specs.declared.row.ReportKind.{ReportKind}
use Rattle.record_fields.specs.Formats.{Format, number_spelled, shaped, ◌⊗◌, optional}
use Rattle.record_codec.specs.declared.reports.JobKind.{JobKind}
use Rattle.record_codec.specs.declared.reports.JobKind.TheVariants.{Add as AddKind, Delete as DeleteKind, Run as RunKind}
use Rattle.record_codec.specs.Fields.{object_name, report_kind, path, schedule}
use Rattle.record_codec.specs.Filters.{filter, filter_typed}
use Rattle.record_codec.specs.Kinds.{one_of}
use Rattle.record_codec.specs.Typed.{some_typed, is_path_text}

abbrev pub job_kind : ℕ → Option JobKind
job_kind n =
    if n == 70 then Some AddKind
    else if n == 71 then Some DeleteKind
    else if n == 72 then Some RunKind else None

abbrev pub job_code : JobKind → ℕ
job_code AddKind = 70
job_code DeleteKind = 71
job_code RunKind = 72

-- the kind of a deed, if its entry has one
abbrev pub job_kind_in : ReportsDeed → Option JobKind
job_kind_in (ReportsAdd new) = Some AddKind
job_kind_in (ReportsDelete name) = Some DeleteKind
job_kind_in (ReportsRun name) = Some RunKind
job_kind_in other = None

-- ---- a new job
abbrev pub JobValues : Type 0
JobValues = List ℕ × (ReportKind × (Path × (Option (List ℕ) × Filter)))

abbrev pub job_of : JobValues → NewJob
job_of v = record { name = v.0; kind = v.1.0; scope = v.1.1.0; schedule = v.1.1.1.0; filter = v.1.1.1.1 }

abbrev pub job_values : NewJob → JobValues
job_values new = (new.name, (new.kind, (new.scope, (new.schedule, new.filter))))

abbrev pub new_job : Format NewJob
new_job = shaped job_of job_values (object_name ⊗ report_kind ⊗ path ⊗ optional schedule ⊗ filter)

-- ---- the values of each kind
abbrev pub add_part : ReportsDeed → Option NewJob
add_part (ReportsAdd new) = Some new
add_part other = None

abbrev pub delete_part : ReportsDeed → Option (List ℕ)
delete_part (ReportsDelete name) = Some name
delete_part other = None

abbrev pub run_part : ReportsDeed → Option (List ℕ)
run_part (ReportsRun name) = Some name
run_part other = None

abbrev pub job_deed : JobKind → Format ReportsDeed
job_deed AddKind = one_of ReportsAdd add_part new_job
job_deed DeleteKind = one_of (λ n. ReportsDelete n) delete_part object_name
job_deed RunKind = one_of (λ n. ReportsRun n) run_part object_name

-- a command after its kind, if its entry has one
abbrev pub job_spelled_as : ReportsDeed → JobKind → List ℕ
job_spelled_as deed k = number_spelled 1 (job_code k) ++ (job_deed k).spell deed

abbrev pub job_spelled : ReportsDeed → List ℕ
job_spelled deed = option_map_or (job_spelled_as deed) (job_kind_in deed) []

-- ---- its texts
abbrev pub new_job_typed : NewJob → Bool
new_job_typed new =
    is_utf8 new.name && (is_path_text new.scope && (some_typed is_utf8 new.schedule && filter_typed new.filter))

abbrev pub job_typed : ReportsDeed → Bool
job_typed (ReportsAdd new) = new_job_typed new
job_typed (ReportsDelete name) = is_utf8 name
job_typed (ReportsRun name) = is_utf8 name
job_typed other = true
