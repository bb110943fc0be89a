-- Commands on report jobs whose values are legal have a spelling, of the length that the definitions count.
use Rattle.std.proofs.Common.{◌≡◌, ℕ, ◌+◌, Bool, true, ◌∷◌, [], length, refl, ◌∙◌, arith}
use Rattle.std.specs.Prelude.{◌&&◌, is_some, sum_by}
use Rattle.std.specs.List.{list_all}
use Rattle.std.specs.Option.{option_map_or}
use Rattle.std.specs.Str.{is_utf8}
use Rattle.fsrm_base.proofs.TestLaws.{both, both_true}
use Rattle.fsrm_model.specs.commands.Commands.{form_of_reports, is_filter, is_new_job}
use Rattle.fsrm_model.specs.commands.Entry.{path_bytes, text_bytes}
use Rattle.fsrm_model.specs.declared.command.NewJob.{NewJob}
use Rattle.fsrm_model.specs.declared.command.ReportsDeed.{ReportsDeed}
use Rattle.fsrm_model.specs.declared.command.ReportsDeed.TheVariants.{Add as ReportsAdd, Delete as ReportsDelete, Run as ReportsRun}
use Rattle.fsrm_model.specs.declared.row.ReportKind.{ReportKind}
use Rattle.fsrm_model.specs.declared.row.ReportKind.TheVariants.{LargeFiles, FilesByType, LeastRecentlyAccessed, MostRecentlyAccessed, QuotaUsage, FilesByOwner, DuplicateFiles, FileScreenAudit}
use Rattle.fsrm_model.specs.objects.Jobs.{is_schedule}
use Rattle.fsrm_model.specs.store.Valued.{is_path, is_short_path}
use Rattle.fsrm_model.specs.values.Patterns.{is_object_name}
use Rattle.record_fields.specs.Formats.{text_spelled}
use Rattle.record_codec.specs.Fields.{report_kind, report_kind_code, schedule}
use Rattle.record_codec.specs.Filters.{filter_typed}
use Rattle.record_codec.specs.Reports.{job_kind_in, job_deed, job_spelled, job_typed, new_job, new_job_typed}
use Rattle.record_codec.specs.Typed.{is_path_text, some_typed}
use Rattle.record_codec.proofs.FilterLaws.{text_given, filter_legal, filter_long}
use Rattle.record_codec.proofs.Legal.{object_name_legal, schedule_legal, first_path, one_byte, two, text_long, path_long, option_long}

report_kind_legal : (k : ReportKind) → report_kind.legal k ≡ true
report_kind_legal LargeFiles = refl
report_kind_legal FilesByType = refl
report_kind_legal LeastRecentlyAccessed = refl
report_kind_legal MostRecentlyAccessed = refl
report_kind_legal QuotaUsage = refl
report_kind_legal FilesByOwner = refl
report_kind_legal DuplicateFiles = refl
report_kind_legal FileScreenAudit = refl

new_job_legal : (new : NewJob) → list_all is_path (new.scope ∷ []) ≡ true → list_all is_short_path (new.scope ∷ []) ≡ true → is_new_job new ≡ true → new_job_typed new ≡ true → new_job.legal new ≡ true
new_job_legal new names short is typed =
    let l = both (is_object_name new.name) (option_map_or is_schedule new.schedule true && is_filter new.filter) is in
    let s = both (option_map_or is_schedule new.schedule true) (is_filter new.filter) l.1 in
    let t = both (is_utf8 new.name) (is_path_text new.scope && (some_typed is_utf8 new.schedule && filter_typed new.filter)) typed in
    let u = both (is_path_text new.scope) (some_typed is_utf8 new.schedule && filter_typed new.filter) t.1 in
    let v = both (some_typed is_utf8 new.schedule) (filter_typed new.filter) u.1 in
    both_true _ _ (object_name_legal new.name l.0 t.0) (both_true _ _ (report_kind_legal new.kind) (both_true _ _ (first_path new.scope names short u.0)
    (both_true _ _ (text_given is_schedule schedule schedule_legal new.schedule s.0 v.0) (filter_legal new.filter s.1 v.1))))

-- whether a command's values are legal, if it has a kind
abbrev pub job_is_legal : ReportsDeed → Bool
job_is_legal deed = option_map_or (λ k. (job_deed k).legal deed) (job_kind_in deed) true

-- the bytes of a command after its kind
abbrev pub job_bytes : ReportsDeed → ℕ
job_bytes deed = sum_by path_bytes (form_of_reports deed).paths + option_map_or (λ entry. entry.bytes) (form_of_reports deed).entry 0

pub job_legal : (deed : ReportsDeed) → list_all is_path (form_of_reports deed).paths ≡ true → list_all is_short_path (form_of_reports deed).paths ≡ true → (form_of_reports deed).legal ≡ true
    → job_typed deed ≡ true → job_is_legal deed ≡ true
job_legal (ReportsAdd new) names short is typed = new_job_legal new names short is typed
job_legal (ReportsDelete name) names short is typed = object_name_legal name is typed
job_legal (ReportsRun name) names short is typed = object_name_legal name is typed
job_legal other names short is typed = refl

pub job_long : (deed : ReportsDeed) → is_some (job_kind_in deed) ≡ true → length (job_spelled deed) ≡ 1 + job_bytes deed
job_long (ReportsAdd new) there =
    two _ _ _ _ (one_byte 70) (two _ _ _ _ (text_long new.name) (two _ _ _ _ (one_byte (report_kind_code new.kind)) (two _ _ _ _ (path_long new.scope)
    (two _ _ _ _ (option_long text_spelled text_bytes text_long new.schedule) (filter_long new.filter))))) ∙ omega arith
job_long (ReportsDelete name) there = two _ _ _ _ (one_byte 71) (text_long name) ∙ omega arith
job_long (ReportsRun name) there = two _ _ _ _ (one_byte 72) (text_long name) ∙ omega arith
job_long other there = absurd (cc there)
