-- The rows of reports and their lines, and the lines of report jobs. Those that are marked unfoldable are opaque, so that
-- goals that carry them stay small.
use Rattle.std.specs.Prelude.{◌≡◌, ℕ, nat_lt, Bool, true, false, List, [], ◌∷◌, ◌++◌, codes, length, slice_get}
use Rattle.std.specs.Option.{option_map_or}
use Rattle.fsrm_base.specs.Keyed.{has_row}
use Rattle.fsrm_model.specs.declared.command.Outcome.{Outcome}
use Rattle.fsrm_model.specs.declared.command.Outcome.TheVariants.{Report}
use Rattle.fsrm_model.specs.declared.report.ReportRow.{ReportRow}
use Rattle.fsrm_model.specs.declared.report.ReportRow.TheVariants.{File, Quota, Audit}
use Rattle.fsrm_model.specs.declared.row.AuditRow.{AuditRow}
use Rattle.fsrm_model.specs.declared.row.Capacity.{Capacity}
use Rattle.fsrm_model.specs.declared.row.JobRow.{JobRow}
use Rattle.fsrm_model.specs.declared.row.NodeRow.{NodeRow}
use Rattle.fsrm_model.specs.declared.row.ReportKind.{ReportKind}
use Rattle.fsrm_model.specs.declared.row.Rows.{Rows}
use Rattle.fsrm_model.specs.nodes.Tree.{number}
use Rattle.fsrm_model.specs.objects.Quota.{counts, quota_of}
use Rattle.fsrm_model.specs.reports.Reports.{table}
use Rattle.fsrm_model.specs.texts.Printed.{body_line, labelled_line}
use Rattle.fsrm_model.specs.texts.ReportText.{audit_words, file_words, row_line, usage_words}
use Rattle.fsrm_model.specs.texts.ReportWords.{job_lines}

-- ---- report jobs
-- the lines of a job, and that of its folder
unfoldable pub job_text : List NodeRow → JobRow → List ℕ
job_text nodes job = job_lines nodes job

unfoldable pub scope_text : List ℕ → List ℕ
scope_text path = labelled_line (codes "scope") path

-- ---- rows of reports
-- the rows that a report tells at a moment, which are handed to its writer
abbrev pub IsMade : Capacity → Rows → ℕ → Outcome → List ReportRow → Type 0
IsMade K R moment (Report ask) rows = rows ≡ table K R ask moment
IsMade K R moment other rows = Unit {0}

-- whether a folder has a quota that counts
abbrev pub is_counted : Rows → ℕ → Bool
is_counted R folder = option_map_or counts (quota_of R folder) false

-- whether what a row names is there
abbrev pub is_there : Rows → ReportRow → Bool
is_there R (File node alloc) = has_row number node R.nodes
is_there R (Quota folder percent) = is_counted R folder
is_there R (Audit place) = nat_lt place (length R.audits)
is_there R other = true

-- ---- their lines
unfoldable pub row_text : Capacity → Rows → ReportKind → ReportRow → List ℕ
row_text K R kind row = row_line K R kind row

-- that of a file with this path
unfoldable pub file_text : ReportKind → ℕ → NodeRow → List ℕ → List ℕ
file_text kind alloc node path = body_line (file_words kind alloc node ++ path ∷ [])

-- that of a folder's quota, with the folder's path
unfoldable pub usage_text : Capacity → Rows → ℕ → ℕ → List ℕ → List ℕ
usage_text K R folder percent path = body_line (option_map_or (usage_words K R.nodes percent) (quota_of R folder) [] ++ path ∷ [])

-- that of the entry at a place of the audit log
unfoldable pub audit_text : List AuditRow → ℕ → List ℕ
audit_text log place = body_line (option_map_or audit_words (slice_get log place) [])
