-- Reports (MS-FSRM, "Report job"): of the rows that pass, those that come first in an order, or a row for each group of
-- files.
use Rattle.std.specs.Prelude.{ℕ, ◌+◌, ◌*◌, ◌/◌, ◌==◌, ◌&&◌, ◌||◌, nat_lt, nat_le, nat_eq, Bool, true, false, not, List, [], ◌∷◌, map, filter, take, length, bytes_eq, chars, encode_utf8_all, Option, unwrap_or, if◌then◌else◌}
use Rattle.std.specs.List.{enumerate_from, list_any}
use Rattle.ucd_case.specs.CaseFolding.{simple_fold}
use Rattle.std.specs.Option.{option_map_or}
use Rattle.fsrm_base.specs.Order.{in_order}
use Rattle.fsrm_model.specs.declared.row.AuditRow.{AuditRow}
use Rattle.fsrm_model.specs.declared.row.Capacity.{Capacity}
use Rattle.fsrm_model.specs.declared.row.Filter.{Filter}
use Rattle.fsrm_model.specs.declared.row.NodeRow.{NodeRow}
use Rattle.fsrm_model.specs.declared.row.QuotaRow.{QuotaRow}
use Rattle.fsrm_model.specs.declared.row.ReportKind.{ReportKind}
use Rattle.fsrm_model.specs.declared.row.ReportKind.TheVariants.{LargeFiles, FilesByType, LeastRecentlyAccessed, MostRecentlyAccessed, QuotaUsage, FilesByOwner, DuplicateFiles, FileScreenAudit}
use Rattle.fsrm_model.specs.declared.row.Rows.{Rows}
use Rattle.fsrm_model.specs.declared.report.ReportRow.{ReportRow}
use Rattle.fsrm_model.specs.declared.report.ReportRow.TheVariants.{File, Kind, Owner, Quota, Audit}
use Rattle.fsrm_model.specs.objects.Quota.{counts}
use Rattle.fsrm_model.specs.values.Space.{space}
use Rattle.fsrm_model.specs.nodes.Tree.{is_under, usage}
use Rattle.fsrm_model.specs.declared.report.FileList.{FileList}
use Rattle.fsrm_model.specs.declared.report.FileList.TheVariants.{Large, Unused, Used}
use Rattle.fsrm_model.specs.declared.report.Report.{Report}
use Rattle.fsrm_model.specs.declared.report.Report.TheVariants.{Lists, Owners, Types, Doubles, Quotas, Audits}
use Rattle.fsrm_model.specs.declared.report.ReportAsk.{ReportAsk}
use Rattle.fsrm_model.specs.reports.Files.{Sums, first_number, sums, report_files}
use Rattle.fsrm_model.specs.reports.Filters.{passes_owner, passes_pattern}
use Rattle.fsrm_model.specs.reports.Groups.{groups}

-- whether a number comes before another, where the greatest is to come first or the least is
abbrev pub comes_before : Bool → ℕ → ℕ → Bool
comes_before most_first m n = if most_first then nat_lt n m else nat_lt m n

-- ---- lists of files
-- whether a file has a row at a moment, by what number it stands in order, and whether the greatest comes first
abbrev pub is_listed : FileList → ℕ → NodeRow → Bool
is_listed (Large least) moment node = nat_le least node.length
is_listed (Unused seconds) moment node = nat_le (node.accessed + seconds) moment
is_listed (Used seconds) moment node = nat_le moment (node.accessed + seconds)

abbrev pub rank_of : FileList → NodeRow → ℕ
rank_of (Large least) node = node.length
rank_of (Unused seconds) node = node.accessed
rank_of (Used seconds) node = node.accessed

abbrev pub is_most_first : FileList → Bool
is_most_first (Large least) = true
is_most_first (Unused seconds) = false
is_most_first (Used seconds) = true

abbrev pub file_row : Capacity → NodeRow → ReportRow
file_row K node = File node.number (space K node)

-- equal ranks stand in the order of their numbers
abbrev pub file_rows : Capacity → FileList → ℕ → List NodeRow → List ReportRow
file_rows K kind moment files =
    map (file_row K) (in_order (λ a b. comes_before (is_most_first kind) (rank_of kind a) (rank_of kind b)) (filter (is_listed kind moment) files))

-- ---- groups of files
-- the groups that take the most first; groups that take as much in the order of their least numbers
abbrev pub alloc_in : {G : Type 0} → G × Sums → ℕ
alloc_in group = group.1.alloc

abbrev pub takes_more : {G : Type 0} → G × Sums → G × Sums → Bool
takes_more a b = nat_lt b.1.alloc a.1.alloc

abbrev pub group_rows : {G : Type 0} → (G → G → Bool) → (NodeRow → G) → (G × Sums → ReportRow) → Capacity → List NodeRow → List ReportRow
group_rows same key row K files = map row (in_order takes_more (groups same key (sums K) files))

abbrev pub owner_in : NodeRow → ℕ
owner_in node = node.owner

abbrev pub owner_row : ℕ × Sums → ReportRow
owner_row group = Owner group.0 group.1.files group.1.lengths group.1.alloc

abbrev pub owner_rows : Capacity → List NodeRow → List ReportRow
owner_rows K files = group_rows nat_eq owner_in owner_row K files

-- the characters after the last dot; none if there is no dot
abbrev pub is_dot : ℕ → Bool
is_dot c = c == 46

abbrev pub after_last_dot : List ℕ → List ℕ
after_last_dot [] = []
after_last_dot (c ∷ cs) = if is_dot c && not (list_any is_dot cs) then cs else after_last_dot cs

-- the type of a name, as a folded text; it may be empty
abbrev pub folded_text : List ℕ → List ℕ
folded_text characters = encode_utf8_all (map simple_fold characters)

abbrev pub type_of : List ℕ → List ℕ
type_of name = folded_text (after_last_dot (chars name))

abbrev pub type_in : NodeRow → List ℕ
type_in node = type_of node.name

abbrev pub type_row : List ℕ × Sums → ReportRow
type_row group = Kind group.0 group.1.files group.1.lengths group.1.alloc

abbrev pub type_rows : Capacity → List NodeRow → List ReportRow
type_rows K files = group_rows bytes_eq type_in type_row K files

-- ---- files that may be one: of one folded name, one length and one moment of change
abbrev pub folded_name : NodeRow → List ℕ
folded_name node = folded_text (chars node.name)

abbrev pub file_key : NodeRow → List ℕ
file_key node = node.length ∷ node.modified ∷ folded_name node

abbrev pub same_file : NodeRow → NodeRow → Bool
same_file a b = bytes_eq (file_key a) (file_key b)

abbrev pub alike : List NodeRow → NodeRow → List NodeRow
alike files node = filter (same_file node) files

-- whether a file has a double, and the least number of those that are alike
abbrev pub has_double : List NodeRow → NodeRow → Bool
has_double files node = nat_lt 1 (length (alike files node))

abbrev pub first_alike : List NodeRow → NodeRow → ℕ
first_alike files node = first_number (alike files node)

abbrev pub length_of : NodeRow → ℕ
length_of node = node.length

-- the longest first, and of one length those whose group has the least number; a group in the order of its numbers
abbrev pub double_before : List NodeRow → NodeRow → NodeRow → Bool
double_before files a b =
    (nat_lt (first_alike files a) (first_alike files b) && (a.length == b.length)) || comes_before true a.length b.length

abbrev pub duplicate_rows : Capacity → List NodeRow → List ReportRow
duplicate_rows K files = map (file_row K) (in_order (double_before files) (filter (has_double files) files))

abbrev pub day : ℕ
day = 86400

-- ---- quotas and the audit log
abbrev pub percent_used : Capacity → Rows → QuotaRow → ℕ
percent_used K R quota = 100 * usage K R.nodes quota.folder / quota.limit

abbrev pub is_much_used : Capacity → Rows → ReportAsk → QuotaRow → Bool
is_much_used K R ask quota =
    is_under R.nodes ask.scope quota.folder
    && (counts quota && nat_le (unwrap_or ask.filter.min_use 0 * quota.limit) (100 * usage K R.nodes quota.folder))

abbrev pub quota_row : Capacity → Rows → QuotaRow → ReportRow
quota_row K R quota = Quota quota.folder (percent_used K R quota)

abbrev pub quota_rows : Capacity → Rows → ReportAsk → List ReportRow
quota_rows K R ask =
    map (quota_row K R) (in_order (λ a b. nat_lt (percent_used K R b) (percent_used K R a)) (filter (is_much_used K R ask) R.quotas))

-- whether a moment is one of the last so many days, if that is asked for
abbrev pub is_recent : Option ℕ → ℕ → ℕ → Bool
is_recent days moment past = option_map_or (λ n. nat_le moment (past + day * n)) days true

abbrev pub is_audited : Filter → ℕ → AuditRow → Bool
is_audited asked moment entry =
    passes_owner asked entry.owner && (passes_pattern asked entry.name && is_recent asked.days moment entry.moment)

abbrev pub is_audited_at : Filter → ℕ → ℕ × AuditRow → Bool
is_audited_at asked moment entry = is_audited asked moment entry.1

abbrev pub place_in : ℕ × AuditRow → ℕ
place_in entry = entry.0

-- the places of the entries that are asked for, the first of which has this place
abbrev pub audited_from : Filter → ℕ → ℕ → List AuditRow → List ℕ
audited_from asked moment place entries = map place_in (filter (is_audited_at asked moment) (enumerate_from place entries))

abbrev pub audit_row : ℕ → ReportRow
audit_row place = Audit place

abbrev pub audit_rows : Filter → ℕ → List AuditRow → List ReportRow
audit_rows asked moment audits = map audit_row (audited_from asked moment 0 audits)

-- ---- the report of each kind, with what it is asked for, and its rows
abbrev pub report_of : Filter → ReportKind → Report
report_of asked LargeFiles = Lists (Large (unwrap_or asked.min_size 5242880))
report_of asked FilesByType = Types
report_of asked LeastRecentlyAccessed = Lists (Unused (day * unwrap_or asked.days 90))
report_of asked MostRecentlyAccessed = Lists (Used (day * unwrap_or asked.days 7))
report_of asked QuotaUsage = Quotas
report_of asked FilesByOwner = Owners
report_of asked DuplicateFiles = Doubles
report_of asked FileScreenAudit = Audits

abbrev pub files_of : Rows → ReportAsk → List NodeRow
files_of R ask = report_files R.nodes ask.scope ask.filter

abbrev pub all_rows : Capacity → Rows → ReportAsk → ℕ → Report → List ReportRow
all_rows K R ask moment (Lists list) = file_rows K list moment (files_of R ask)
all_rows K R ask moment Owners = owner_rows K (files_of R ask)
all_rows K R ask moment Types = type_rows K (files_of R ask)
all_rows K R ask moment Doubles = duplicate_rows K (files_of R ask)
all_rows K R ask moment Quotas = quota_rows K R ask
all_rows K R ask moment Audits = audit_rows ask.filter moment R.audits

abbrev pub table : Capacity → Rows → ReportAsk → ℕ → List ReportRow
table K R ask moment = take ask.filter.max (all_rows K R ask moment (report_of ask.filter ask.kind))
