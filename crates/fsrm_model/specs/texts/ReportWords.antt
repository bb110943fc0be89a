-- The words of reports: how a script gives them, and how a list shows a job.
use Rattle.std.specs.Prelude.{ℕ, List, [], ◌∷◌, ◌++◌, find, codes, Option}
use Rattle.std.specs.Str.{str_eq_ignore_ascii_case}
use Rattle.fsrm_model.specs.declared.command.Refusal.TheVariants.{BadLine, InvalidName}
use Rattle.fsrm_model.specs.declared.row.JobRow.{JobRow}
use Rattle.fsrm_model.specs.declared.row.NodeRow.{NodeRow}
use Rattle.fsrm_model.specs.declared.row.ReportKind.{ReportKind}
use Rattle.fsrm_model.specs.declared.row.ReportKind.TheVariants.{LargeFiles, FilesByType, LeastRecentlyAccessed, MostRecentlyAccessed, QuotaUsage, FilesByOwner, DuplicateFiles, FileScreenAudit}
use Rattle.fsrm_model.specs.lines.Reading.{Read, guarded, known}
use Rattle.fsrm_model.specs.objects.Jobs.{is_schedule}
use Rattle.fsrm_model.specs.texts.Printed.{body_line, labelled_line, path_text}
use Rattle.fsrm_model.specs.values.Patterns.{is_pattern}

abbrev pub report_word : ReportKind → List ℕ
report_word LargeFiles = codes "LargeFiles"
report_word FilesByType = codes "FilesByType"
report_word LeastRecentlyAccessed = codes "LeastRecentlyAccessed"
report_word MostRecentlyAccessed = codes "MostRecentlyAccessed"
report_word QuotaUsage = codes "QuotaUsage"
report_word FilesByOwner = codes "FilesByOwner"
report_word DuplicateFiles = codes "DuplicateFiles"
report_word FileScreenAudit = codes "FileScreenAudit"

abbrev pub all_reports : List ReportKind
all_reports =
    LargeFiles ∷ FilesByType ∷ LeastRecentlyAccessed ∷ MostRecentlyAccessed ∷ QuotaUsage ∷ FilesByOwner ∷ DuplicateFiles
    ∷ FileScreenAudit ∷ []

-- ---- in a word at a column of a script's line
-- the report of a word, in letters of either case
abbrev pub report_named : List ℕ → Option ReportKind
report_named text = find (λ kind. str_eq_ignore_ascii_case (report_word kind) text) all_reports

abbrev pub report_from : ℕ → List ℕ → Read ReportKind
report_from column text = known (BadLine column) (report_named text)

abbrev pub pattern_from : List ℕ → Read (List ℕ)
pattern_from text = guarded (is_pattern text) InvalidName text

abbrev pub schedule_from : List ℕ → Read (List ℕ)
schedule_from text = guarded (is_schedule text) InvalidName text

-- ---- in a list
-- a job: what it makes and its name, the folder that it reports on, and its schedule, as it was given
abbrev pub job_lines : List NodeRow → JobRow → List ℕ
job_lines nodes job =
    body_line (report_word job.kind ∷ job.name ∷ [])
    ++ (labelled_line (codes "scope") (path_text nodes job.scope)
    ++ labelled_line (codes "schedule") job.schedule)
