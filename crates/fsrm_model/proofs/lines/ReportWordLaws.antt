-- The words of reports are read exactly as they are written, and refused only as a line is.
use Rattle.std.proofs.Common.{◌≡◌, ℕ, List, [], ◌∷◌, Bool, true, refl, ◌∙◌, ap, subst, cond}
use Rattle.std.specs.Prelude.{Ok, find, Option, Some}
use Rattle.std.specs.Str.{str_eq_ignore_ascii_case}
use Rattle.fsrm_model.specs.declared.command.Refusal.TheVariants.{BadLine, InvalidName}
use Rattle.fsrm_model.specs.declared.row.ReportKind.{ReportKind}
use Rattle.fsrm_model.specs.declared.row.ReportKind.TheVariants.{LargeFiles, FilesByType, LeastRecentlyAccessed, MostRecentlyAccessed, QuotaUsage, FilesByOwner, DuplicateFiles, FileScreenAudit}
use Rattle.fsrm_model.specs.lines.Reading.{known}
use Rattle.fsrm_model.specs.meaning.Spelling.{IsNamed, WritesPattern, WritesSchedule}
use Rattle.fsrm_model.specs.objects.Jobs.{is_schedule}
use Rattle.fsrm_model.specs.texts.ReportWords.{report_word, all_reports, report_named, report_from, pattern_from, schedule_from}
use Rattle.fsrm_model.specs.values.Patterns.{is_pattern}
use Rattle.fsrm_base.proofs.Look.{found_passes}
use Rattle.fsrm_model.proofs.lines.LineValues.{AsLine, guarded_line, known_line}
use Rattle.fsrm_model.proofs.lines.ReadLaws.{guarded_ok, guarded_from}
use Rattle.fsrm_model.proofs.lines.ValueLaws.{name_same, known_ok}

-- ---- what a report is about
pub report_writes : (column : ℕ) (text : List ℕ) (kind : ReportKind) → report_from column text ≡ Ok kind → IsNamed (report_word kind) text
report_writes column text kind h =
    found_passes (λ kind. str_eq_ignore_ascii_case (report_word kind) text) all_reports kind (known_ok (BadLine column) (report_named text) kind h)

-- a word is found as the table's own spelling of it
found_as : (text : List ℕ) (kind : ReportKind) → IsNamed (report_word kind) text → (kinds : List ReportKind) → find (λ k. str_eq_ignore_ascii_case (report_word k) text) kinds ≡ find (λ k. str_eq_ignore_ascii_case (report_word k) (report_word kind)) kinds
found_as text kind w [] = refl
found_as text kind w (k ∷ kinds) =
    ap (λ (b : Bool). cond b (Some k) (find (λ k. str_eq_ignore_ascii_case (report_word k) text) kinds)) (name_same (report_word k) (report_word kind) text w)
    ∙ ap (λ (o : Option ReportKind). cond (str_eq_ignore_ascii_case (report_word k) (report_word kind)) (Some k) o) (found_as text kind w kinds)

own_word : (kind : ReportKind) → report_named (report_word kind) ≡ Some kind
own_word LargeFiles = refl
own_word FilesByType = refl
own_word LeastRecentlyAccessed = refl
own_word MostRecentlyAccessed = refl
own_word QuotaUsage = refl
own_word FilesByOwner = refl
own_word DuplicateFiles = refl
own_word FileScreenAudit = refl

pub report_reads : (column : ℕ) (text : List ℕ) (kind : ReportKind) → IsNamed (report_word kind) text → report_from column text ≡ Ok kind
report_reads column text kind w = ap (known (BadLine column)) (found_as text kind w all_reports ∙ own_word kind)

pub report_line : (column : ℕ) (text : List ℕ) → AsLine (report_from column text)
report_line column text = known_line (BadLine column) (report_named text) refl

-- ---- a pattern
pub pattern_writes : (text pattern : List ℕ) → pattern_from text ≡ Ok pattern → WritesPattern text pattern
pattern_writes text pattern h =
    let own = guarded_ok (is_pattern text) InvalidName text pattern h in
    record { text_is = own.1; legal = subst (λ (t : List ℕ). is_pattern t ≡ true) own.1 own.0 }

pub pattern_reads : (text pattern : List ℕ) → WritesPattern text pattern → pattern_from text ≡ Ok pattern
pattern_reads text pattern w = ap pattern_from w.text_is ∙ guarded_from (is_pattern pattern) InvalidName pattern w.legal

pub pattern_line : (text : List ℕ) → AsLine (pattern_from text)
pattern_line text = guarded_line (is_pattern text) InvalidName text refl

-- ---- a schedule
pub schedule_writes : (text schedule : List ℕ) → schedule_from text ≡ Ok schedule → WritesSchedule text schedule
schedule_writes text schedule h =
    let own = guarded_ok (is_schedule text) InvalidName text schedule h in
    record { text_is = own.1; legal = subst (λ (t : List ℕ). is_schedule t ≡ true) own.1 own.0 }

pub schedule_reads : (text schedule : List ℕ) → WritesSchedule text schedule → schedule_from text ≡ Ok schedule
schedule_reads text schedule w = ap schedule_from w.text_is ∙ guarded_from (is_schedule schedule) InvalidName schedule w.legal

pub schedule_line : (text : List ℕ) → AsLine (schedule_from text)
schedule_line text = guarded_line (is_schedule text) InvalidName text refl
