-- The lines of report jobs and of reports.
use Rattle.std.proofs.Common.{◌≡◌, ℕ, zero, suc, ◌≤◌, ◌==◌, ◌&&◌, true, List, [], ◌∷◌, ◌++◌, refl, sym, ap, ◌∙◌, ◌⊎◌, inl, inr, arith}
use Rattle.std.specs.Prelude.{codes, decimal, flat_map, length, nat_le, Some, slice_get}
use Rattle.std.specs.List.{list_all}
use Rattle.std.specs.Option.{option_map_or}
use Rattle.fsrm_base.specs.Keyed.{row_of, has_row, is_ascending}
use Rattle.fsrm_base.proofs.Look.{found_key}
use Rattle.fsrm_base.proofs.Members.{all_found}
use Rattle.fsrm_base.proofs.TestLaws.{both, eq_is, is_or_not, le_is}
use Rattle.fsrm_model.specs.declared.command.Ask.TheVariants.{Jobs}
use Rattle.fsrm_model.specs.declared.report.ReportAsk.{ReportAsk}
use Rattle.fsrm_model.specs.declared.report.ReportRow.{ReportRow}
use Rattle.fsrm_model.specs.declared.report.ReportRow.TheVariants.{File, Kind, Owner, Quota, Audit}
use Rattle.fsrm_model.specs.declared.row.AuditRow.{AuditRow}
use Rattle.fsrm_model.specs.declared.row.Capacity.{Capacity}
use Rattle.fsrm_model.specs.declared.row.JobRow.{JobRow}
use Rattle.fsrm_model.specs.declared.row.NodeRow.{NodeRow}
use Rattle.fsrm_model.specs.declared.row.QuotaRow.{QuotaRow}
use Rattle.fsrm_model.specs.declared.row.ReportKind.{ReportKind}
use Rattle.fsrm_model.specs.declared.row.ReportKind.TheVariants.{LargeFiles, FilesByType, LeastRecentlyAccessed, MostRecentlyAccessed, QuotaUsage, FilesByOwner, DuplicateFiles, FileScreenAudit}
use Rattle.fsrm_model.specs.declared.row.Rows.{Rows}
use Rattle.fsrm_model.specs.nodes.Tree.{number, node_of, is_folder, usage}
use Rattle.fsrm_model.specs.objects.Jobs.{is_job, job_number}
use Rattle.fsrm_model.specs.objects.Quota.{counts, folder_of, quota_of, used_of}
use Rattle.fsrm_model.specs.store.Valid.{IsValid, IsVolume, is_audit, are_audits, is_moment, is_root_node, is_sound_job}
use Rattle.fsrm_model.specs.texts.Printed.{body_line, path_text}
use Rattle.fsrm_model.specs.texts.ReportText.{audit_words, file_words, sums_words, type_word_of, usage_words}
use Rattle.fsrm_model.specs.texts.ReportWords.{report_word}
use Rattle.fsrm_model.specs.texts.ScreenText.{mode_word}
use Rattle.fsrm_model.specs.texts.Text.{list_lines}
use Rattle.fsrm_model.specs.values.Limits.{latest_moment, most_entries}
use Rattle.fsrm_model.specs.values.Name.{is_name}
use Rattle.fsrm_model.proofs.nodes.OwnLaws.{own_parts}
use Rattle.line_parts.specs.Moments.{moment_text}
use Rattle.reply_text.specs.Lines.{labelled_text}
use Rattle.reply_text.specs.ReportLines.{audit_text, file_text, job_text, row_text, scope_text, usage_text}
use Rattle.reply_text.proofs.ActLines.{all_at}
use Rattle.reply_text.proofs.Nodes.{is_node}

-- ---- report jobs
pub scope_shown : (path bytes : List ℕ) → bytes ≡ path → 32 ∷ 32 ∷ 32 ∷ 32 ∷ (codes "scope " ++ (bytes ++ 10 ∷ [])) ≡ scope_text path
unfolding scope_text
scope_shown path bytes same = ap (λ (xs : List ℕ). 32 ∷ 32 ∷ 32 ∷ 32 ∷ (codes "scope " ++ (xs ++ 10 ∷ []))) same

job_parts : (nodes : List NodeRow) (job : JobRow) → body_line (report_word job.kind ∷ job.name ∷ []) ++ (scope_text (path_text nodes job.scope) ++ labelled_text (codes "schedule") job.schedule) ≡ job_text nodes job
unfolding job_text scope_text labelled_text
job_parts nodes job = refl

pub job_shown : (nodes : List NodeRow) (job : JobRow) (name path : List ℕ) → name ≡ job.name → path ≡ path_text nodes job.scope
    → body_line (report_word job.kind ∷ name ∷ []) ++ (scope_text path ++ labelled_text (codes "schedule") job.schedule) ≡ job_text nodes job
job_shown nodes job name path names paths = rw (names, paths) (job_parts nodes job)

pub all_jobs : (K : Capacity) (R : Rows) → flat_map (job_text R.nodes) R.jobs ≡ list_lines K R Jobs
unfolding job_text
all_jobs K R = refl

pub record AreJobs (R : Rows) : Type 0 where
  pub ascending : is_ascending job_number R.jobs ≡ true
  pub own : (job : JobRow) → row_of job_number job.number R.jobs ≡ Some job → has_row number job.scope R.nodes ≡ true

pub jobs_kept : (K : Capacity) (R : Rows) → IsValid K R → AreJobs R
jobs_kept K R store =
    let parts = both _ _ store.tables.jobs in
    let each = (both _ _ parts.1).0 in
    record {
      ascending = (both _ _ parts.0).0;
      own = λ job found. is_node R.nodes job.scope (both (is_folder R.nodes job.scope) (is_job job) (all_found (is_sound_job R.nodes) (λ j. job_number j == job.number) R.jobs job each found)).0;
    }

-- ---- files
-- the moments of a node are moments
pub record InTime (node : NodeRow) : Type 0 where
  pub accessed : node.accessed ≤ latest_moment
  pub modified : node.modified ≤ latest_moment

root_in_time : (node : NodeRow) → is_root_node node ≡ true → InTime node
root_in_time node h =
    let owned : (((node.owner == 1) && ((node.created == 0) && ((node.modified == 0) && (node.accessed == 0)))) ≡ true) = (both _ _ h).1 in
    let made : (((node.created == 0) && ((node.modified == 0) && (node.accessed == 0))) ≡ true) = (both (node.owner == 1) _ owned).1 in
    let times : (((node.modified == 0) && (node.accessed == 0)) ≡ true) = (both (node.created == 0) _ made).1 in
    let modified : node.modified ≡ 0 = eq_is node.modified 0 (both (node.modified == 0) (node.accessed == 0) times).0 in
    let accessed : node.accessed ≡ 0 = eq_is node.accessed 0 (both (node.modified == 0) (node.accessed == 0) times).1 in
    record { accessed = omega (arith, accessed); modified = omega (arith, modified) }

pub in_time_node : (K : Capacity) (nodes : List NodeRow) (n : ℕ) (node : NodeRow) → IsVolume K nodes → node_of nodes n ≡ Some node → InTime node
in_time_node K nodes n node volume found =
    elim (is_or_not (n == 0)) [
      | inl top ↦ root_in_time node (volume.root node (ap (node_of nodes) (sym (eq_is n 0 top)) ∙ found))
      | inr inner ↦
          let parts = own_parts node (volume.own n node found inner) in
          record { accessed = le_is node.accessed latest_moment parts.seen; modified = le_is node.modified latest_moment parts.changed }
    ]

pub large_shown : (alloc : ℕ) (node : NodeRow) (path : List ℕ) (kind : ReportKind) → kind ≡ LargeFiles → body_line (decimal node.length ∷ decimal alloc ∷ decimal node.owner ∷ path ∷ []) ≡ file_text kind alloc node path
unfolding file_text
large_shown alloc node path kind is = ap (λ k. file_text k alloc node path) (sym is)

pub least_shown : (alloc : ℕ) (node : NodeRow) (path moment : List ℕ) (kind : ReportKind) → kind ≡ LeastRecentlyAccessed → moment ≡ moment_text node.accessed → body_line (moment ∷ decimal node.length ∷ path ∷ []) ≡ file_text kind alloc node path
unfolding file_text moment_text
least_shown alloc node path moment kind is same = ap (λ (m : List ℕ). body_line (m ∷ decimal node.length ∷ path ∷ [])) same ∙ ap (λ k. file_text k alloc node path) (sym is)

pub most_shown : (alloc : ℕ) (node : NodeRow) (path moment : List ℕ) (kind : ReportKind) → kind ≡ MostRecentlyAccessed → moment ≡ moment_text node.accessed → body_line (moment ∷ decimal node.length ∷ path ∷ []) ≡ file_text kind alloc node path
unfolding file_text moment_text
most_shown alloc node path moment kind is same = ap (λ (m : List ℕ). body_line (m ∷ decimal node.length ∷ path ∷ [])) same ∙ ap (λ k. file_text k alloc node path) (sym is)

pub plain_shown : (alloc : ℕ) (node : NodeRow) (path : List ℕ) (kind : ReportKind) → (kind ≡ FilesByType) ⊎ ((kind ≡ FilesByOwner) ⊎ ((kind ≡ QuotaUsage) ⊎ (kind ≡ FileScreenAudit))) → body_line (path ∷ []) ≡ file_text kind alloc node path
unfolding file_text
plain_shown alloc node path kind (inl is) = ap (λ k. file_text k alloc node path) (sym is)
plain_shown alloc node path kind (inr (inl is)) = ap (λ k. file_text k alloc node path) (sym is)
plain_shown alloc node path kind (inr (inr (inl is))) = ap (λ k. file_text k alloc node path) (sym is)
plain_shown alloc node path kind (inr (inr (inr is))) = ap (λ k. file_text k alloc node path) (sym is)

pub double_shown : (alloc : ℕ) (node : NodeRow) (path moment : List ℕ) (kind : ReportKind) → kind ≡ DuplicateFiles → moment ≡ moment_text node.modified → body_line (decimal node.length ∷ moment ∷ path ∷ []) ≡ file_text kind alloc node path
unfolding file_text moment_text
double_shown alloc node path moment kind is same = ap (λ (m : List ℕ). body_line (decimal node.length ∷ m ∷ path ∷ [])) same ∙ ap (λ k. file_text k alloc node path) (sym is)

-- ---- quotas
pub used_some : (K : Capacity) (R : Rows) (folder : ℕ) (quota : QuotaRow) → quota_of R folder ≡ Some quota → counts quota ≡ true → used_of K R folder ≡ Some (usage K R.nodes folder)
used_some K R folder quota found counting = rw (found, counting) refl

pub usage_shown : (K : Capacity) (R : Rows) (folder percent used : ℕ) (path : List ℕ) (quota : QuotaRow) → quota_of R folder ≡ Some quota → used ≡ usage K R.nodes folder
    → body_line (decimal quota.limit ∷ decimal used ∷ decimal percent ∷ decimal quota.peak ∷ path ∷ []) ≡ usage_text K R folder percent path
unfolding usage_text
usage_shown K R folder percent used path quota found uses =
    ap (λ n. body_line (decimal quota.limit ∷ decimal n ∷ decimal percent ∷ decimal quota.peak ∷ path ∷ [])) (uses ∙ ap (usage K R.nodes) (sym (found_key folder_of folder R.quotas quota found)))
    ∙ ap (λ o. body_line (option_map_or (usage_words K R.nodes percent) o [] ++ path ∷ [])) (sym found)

-- ---- entries
pub audit_shown : (log : List AuditRow) (place : ℕ) (entry : AuditRow) (moment : List ℕ) → slice_get log place ≡ Some entry → moment ≡ moment_text entry.moment
    → body_line (moment ∷ mode_word entry.active ∷ decimal entry.owner ∷ decimal entry.folder ∷ decimal entry.screen ∷ entry.name ∷ []) ≡ audit_text log place
unfolding audit_text moment_text
audit_shown log place entry moment found same =
    ap (λ (m : List ℕ). body_line (m ∷ mode_word entry.active ∷ decimal entry.owner ∷ decimal entry.folder ∷ decimal entry.screen ∷ entry.name ∷ [])) same
    ∙ ap (λ o. body_line (option_map_or audit_words o [])) (sym found)

pub audit_in_time : (log : List AuditRow) (place : ℕ) (entry : AuditRow) → are_audits log ≡ true → slice_get log place ≡ Some entry → entry.moment ≤ latest_moment
audit_in_time log place entry store found =
    let all = (both (nat_le (length log) most_entries) (list_all is_audit log) store).1 in
    let own = both (is_moment entry.moment) (is_name entry.name) (all_at is_audit log place entry all found) in
    le_is entry.moment latest_moment own.0

-- ---- rows
pub file_row_shown : (K : Capacity) (R : Rows) (kind : ReportKind) (row : ReportRow) (n alloc : ℕ) (node : NodeRow) (path : List ℕ) → row ≡ File n alloc → node_of R.nodes n ≡ Some node → path ≡ path_text R.nodes n
    → file_text kind alloc node path ≡ row_text K R kind row
unfolding file_text row_text
file_row_shown K R kind row n alloc node path is found same =
    ap (λ (p : List ℕ). body_line (file_words kind alloc node ++ p ∷ [])) same
    ∙ ap (λ o. body_line (option_map_or (file_words kind alloc) o [] ++ path_text R.nodes n ∷ [])) (sym found)
    ∙ ap (row_text K R kind) (sym is)

pub type_row_shown : (K : Capacity) (R : Rows) (kind : ReportKind) (row : ReportRow) (name word : List ℕ) (files lengths alloc : ℕ) → row ≡ Kind name files lengths alloc → word ≡ type_word_of name
    → body_line (word ∷ decimal files ∷ decimal lengths ∷ decimal alloc ∷ []) ≡ row_text K R kind row
unfolding row_text
type_row_shown K R kind row name word files lengths alloc is same =
    ap (λ (w : List ℕ). body_line (w ∷ sums_words files lengths alloc)) same ∙ ap (row_text K R kind) (sym is)

pub owner_row_shown : (K : Capacity) (R : Rows) (kind : ReportKind) (row : ReportRow) (owner shown files lengths alloc : ℕ) → row ≡ Owner owner files lengths alloc → shown ≡ owner
    → body_line (decimal shown ∷ decimal files ∷ decimal lengths ∷ decimal alloc ∷ []) ≡ row_text K R kind row
unfolding row_text
owner_row_shown K R kind row owner shown files lengths alloc is same =
    ap (λ n. body_line (decimal n ∷ sums_words files lengths alloc)) same ∙ ap (row_text K R kind) (sym is)

pub quota_row_shown : (K : Capacity) (R : Rows) (kind : ReportKind) (row : ReportRow) (folder percent : ℕ) (path : List ℕ) → row ≡ Quota folder percent → path ≡ path_text R.nodes folder → usage_text K R folder percent path ≡ row_text K R kind row
unfolding usage_text row_text
quota_row_shown K R kind row folder percent path is same =
    ap (usage_text K R folder percent) same ∙ ap (row_text K R kind) (sym is)

pub audit_row_shown : (K : Capacity) (R : Rows) (kind : ReportKind) (row : ReportRow) (log : List AuditRow) (place : ℕ) → row ≡ Audit place → log ≡ R.audits → audit_text log place ≡ row_text K R kind row
unfolding audit_text row_text
audit_row_shown K R kind row log place is same = ap (λ l. audit_text l place) same ∙ ap (row_text K R kind) (sym is)
