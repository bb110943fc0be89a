-- The lines of reports.
use Rattle.std.specs.Prelude.{ℕ, ◌==◌, List, [], ◌∷◌, ◌++◌, flat_map, decimal, codes, length, slice_get, if◌then◌else◌}
use Rattle.std.specs.Option.{option_map_or}
use Rattle.fsrm_model.specs.declared.row.Capacity.{Capacity}
use Rattle.fsrm_model.specs.declared.row.NodeRow.{NodeRow}
use Rattle.fsrm_model.specs.declared.row.AuditRow.{AuditRow}
use Rattle.fsrm_model.specs.declared.row.QuotaRow.{QuotaRow}
use Rattle.fsrm_model.specs.declared.row.ReportKind.{ReportKind}
use Rattle.fsrm_model.specs.declared.row.ReportKind.TheVariants.{LargeFiles, FilesByType, LeastRecentlyAccessed, MostRecentlyAccessed, QuotaUsage, FilesByOwner, DuplicateFiles, FileScreenAudit}
use Rattle.fsrm_model.specs.declared.row.Rows.{Rows}
use Rattle.fsrm_model.specs.declared.report.ReportAsk.{ReportAsk}
use Rattle.fsrm_model.specs.declared.report.ReportRow.{ReportRow}
use Rattle.fsrm_model.specs.declared.report.ReportRow.TheVariants.{File, Kind, Owner, Quota, Audit}
use Rattle.fsrm_model.specs.nodes.Tree.{node_of, usage}
use Rattle.fsrm_model.specs.objects.Quota.{quota_of}
use Rattle.fsrm_model.specs.values.Date.{date_text}
use Rattle.fsrm_model.specs.texts.Printed.{body_line, path_text}
use Rattle.fsrm_model.specs.texts.ScreenText.{mode_word}
use Rattle.fsrm_model.specs.reports.Reports.{table}

-- what a row of one kind tells of its file, beside its path: lengths and what is taken in bytes, moments as dates
abbrev pub file_words : ReportKind → ℕ → NodeRow → List (List ℕ)
file_words LargeFiles alloc node = decimal node.length ∷ decimal alloc ∷ decimal node.owner ∷ []
file_words FilesByType alloc node = []
file_words LeastRecentlyAccessed alloc node = date_text node.accessed ∷ decimal node.length ∷ []
file_words MostRecentlyAccessed alloc node = date_text node.accessed ∷ decimal node.length ∷ []
file_words QuotaUsage alloc node = []
file_words FilesByOwner alloc node = []
file_words DuplicateFiles alloc node = decimal node.length ∷ date_text node.modified ∷ []
file_words FileScreenAudit alloc node = []

-- an entry of the audit log. The numbers of its folder and its screen are as they were then
abbrev pub audit_words : AuditRow → List (List ℕ)
audit_words entry =
    date_text entry.moment ∷ mode_word entry.active ∷ decimal entry.owner ∷ decimal entry.folder
    ∷ decimal entry.screen ∷ entry.name ∷ []

-- the type of files without one has a word of its own, whose text a type may have, too
abbrev pub type_word_of : List ℕ → List ℕ
type_word_of name = if length name == 0 then codes "(none)" else name

-- what a quota's row tells, beside its folder: its limit, what is used, how many percent of it that is, and its peak
abbrev pub usage_words : Capacity → List NodeRow → ℕ → QuotaRow → List (List ℕ)
usage_words K nodes percent quota =
    decimal quota.limit ∷ decimal (usage K nodes quota.folder) ∷ decimal percent ∷ decimal quota.peak ∷ []

-- how many files there are, the sum of their lengths, and what they take
abbrev pub sums_words : ℕ → ℕ → ℕ → List (List ℕ)
sums_words files lengths alloc = decimal files ∷ decimal lengths ∷ decimal alloc ∷ []

abbrev pub row_words : Capacity → Rows → ReportKind → ReportRow → List (List ℕ)
row_words K R kind (File n alloc) = option_map_or (file_words kind alloc) (node_of R.nodes n) [] ++ path_text R.nodes n ∷ []
row_words K R kind (Kind name files lengths alloc) = type_word_of name ∷ sums_words files lengths alloc
row_words K R kind (Owner owner files lengths alloc) = decimal owner ∷ sums_words files lengths alloc
row_words K R kind (Quota folder percent) =
    option_map_or (usage_words K R.nodes percent) (quota_of R folder) [] ++ path_text R.nodes folder ∷ []
row_words K R kind (Audit place) = option_map_or audit_words (slice_get R.audits place) []

-- a line for each row
abbrev pub row_line : Capacity → Rows → ReportKind → ReportRow → List ℕ
row_line K R kind row = body_line (row_words K R kind row)

-- the lines of a report that is made of these rows at a moment
abbrev pub report_lines : Capacity → Rows → ReportAsk → ℕ → List ℕ
report_lines K R ask moment = flat_map (row_line K R ask.kind) (table K R ask moment)
