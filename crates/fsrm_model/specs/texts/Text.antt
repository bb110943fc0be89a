-- The texts of replies.
use Rattle.std.specs.Prelude.{ℕ, ◌==◌, Bool, true, false, List, [], ◌∷◌, ◌++◌, filter, flat_map, decimal, codes, Option, Some, None, if◌then◌else◌}
use Rattle.fsrm_model.specs.declared.row.Capacity.{Capacity}
use Rattle.fsrm_model.specs.declared.row.NodeRow.{NodeRow}
use Rattle.fsrm_model.specs.declared.row.QuotaRow.{QuotaRow}
use Rattle.fsrm_model.specs.declared.row.QuotaState.{QuotaState}
use Rattle.fsrm_model.specs.declared.row.QuotaState.TheVariants.{Complete, Disabled, Rebuilding, Incomplete}
use Rattle.fsrm_model.specs.declared.row.Rows.{Rows}
use Rattle.fsrm_model.specs.declared.command.Ask.{Ask}
use Rattle.fsrm_model.specs.declared.command.Ask.TheVariants.{Quotas, Templates, Autos, Groups, Screens, Excepts, Jobs, Settings, Acts}
use Rattle.fsrm_model.specs.declared.command.Refusal.{Refusal}
use Rattle.fsrm_model.specs.declared.command.Refusal.TheVariants.{BadLine, LineTooLong, InvalidPath, InvalidName, OutOfRange, InvalidLimit, ClockBack, PathNotFound, NotFound, AlreadyExists, DuplicateName, InUse, InvalidCombination, NotEmpty, InvalidMove, NothingToScan, VolumeFull, NamesFull, TableFull, TextsFull, ScreenBlocked, QuotaExceeded}
use Rattle.fsrm_model.specs.declared.command.Outcome.{Outcome}
use Rattle.fsrm_model.specs.declared.command.Outcome.TheVariants.{Done, Sum, Listing, Report, Scanned, Refused}
use Rattle.fsrm_model.specs.texts.ActText.{threshold_lines, log_lines}
use Rattle.fsrm_model.specs.texts.ReportText.{report_lines}
use Rattle.fsrm_model.specs.texts.ReportWords.{job_lines}
use Rattle.fsrm_model.specs.texts.ScreenText.{group_lines, screen_lines, except_lines}
use Rattle.fsrm_model.specs.texts.SettingsText.{settings_lines}
use Rattle.fsrm_model.specs.texts.TemplateText.{template_lines, auto_lines}
use Rattle.fsrm_model.specs.nodes.Tree.{usage}
use Rattle.fsrm_model.specs.objects.Quota.{folder_of, counts}
use Rattle.fsrm_model.specs.values.Date.{date_text}
pub use Rattle.fsrm_model.specs.texts.Printed.{line_of, body_line, path_text, type_word}

-- a refusal's name, and what it carries
abbrev pub refusal_words : List NodeRow → Refusal → List (List ℕ)
refusal_words nodes (BadLine column) = codes "BadLine" ∷ decimal column ∷ []
refusal_words nodes LineTooLong = codes "LineTooLong" ∷ []
refusal_words nodes InvalidPath = codes "InvalidPath" ∷ []
refusal_words nodes InvalidName = codes "InvalidName" ∷ []
refusal_words nodes OutOfRange = codes "OutOfRange" ∷ []
refusal_words nodes InvalidLimit = codes "InvalidLimit" ∷ []
refusal_words nodes ClockBack = codes "ClockBack" ∷ []
refusal_words nodes PathNotFound = codes "PathNotFound" ∷ []
refusal_words nodes NotFound = codes "NotFound" ∷ []
refusal_words nodes AlreadyExists = codes "AlreadyExists" ∷ []
refusal_words nodes DuplicateName = codes "DuplicateName" ∷ []
refusal_words nodes InUse = codes "InUse" ∷ []
refusal_words nodes InvalidCombination = codes "InvalidCombination" ∷ []
refusal_words nodes NotEmpty = codes "NotEmpty" ∷ []
refusal_words nodes InvalidMove = codes "InvalidMove" ∷ []
refusal_words nodes NothingToScan = codes "NothingToScan" ∷ []
refusal_words nodes VolumeFull = codes "VolumeFull" ∷ []
refusal_words nodes NamesFull = codes "NamesFull" ∷ []
refusal_words nodes TableFull = codes "TableFull" ∷ []
refusal_words nodes TextsFull = codes "TextsFull" ∷ []
refusal_words nodes (ScreenBlocked screen) = codes "ScreenBlocked" ∷ path_text nodes screen ∷ []
refusal_words nodes (QuotaExceeded folder would limit) =
    codes "QuotaExceeded" ∷ decimal would ∷ decimal limit ∷ path_text nodes folder ∷ []

-- whether it carries no path
abbrev pub is_bare : Refusal → Bool
is_bare (ScreenBlocked screen) = false
is_bare (QuotaExceeded folder would limit) = false
is_bare other = true

-- what a finished scan has counted
abbrev pub done_words : Option ℕ → List (List ℕ)
done_words None = []
done_words (Some used) = codes "done" ∷ decimal used ∷ []

-- the words after the number of the line
abbrev pub head_words : List NodeRow → Outcome → List (List ℕ)
head_words nodes (Done passive) = codes "ok" ∷ []
head_words nodes (Sum node bytes) = codes "ok" ∷ []
head_words nodes (Listing ask) = codes "ok" ∷ []
head_words nodes (Report ask) = codes "ok" ∷ []
head_words nodes (Scanned folder visited used) =
    codes "ok" ∷ codes "visited" ∷ decimal visited ∷ codes "of" ∷ path_text nodes folder ∷ done_words used
head_words nodes (Refused refusal) = codes "refused" ∷ refusal_words nodes refusal

-- the first line of a reply: the number of the script's line, and what became of it
abbrev pub head_line : List NodeRow → ℕ → Outcome → List ℕ
head_line nodes line outcome = line_of (decimal line ∷ head_words nodes outcome)

-- the folder of a passive screen that reports the operation, if there is one
abbrev pub passive_line : List NodeRow → Option ℕ → List ℕ
passive_line nodes None = []
passive_line nodes (Some screen) = body_line (codes "passive" ∷ path_text nodes screen ∷ [])

abbrev pub state_word : QuotaState → List ℕ
state_word Complete = codes "complete"
state_word Disabled = codes "disabled"
state_word Rebuilding = codes "rebuilding"
state_word Incomplete = codes "incomplete"

-- What a list shows of a quota: its limit, whether it is enforced, its state, what the files at and below its folder take
-- (if it counts), its peak, the date of that, and its folder
abbrev pub quota_line : Capacity → List NodeRow → QuotaRow → List ℕ
quota_line K nodes quota =
    body_line (decimal quota.limit ∷ type_word quota.enforce ∷ state_word quota.state
    ∷ (if counts quota then decimal (usage K nodes quota.folder) else codes "-")
    ∷ decimal quota.peak ∷ date_text quota.peak_at ∷ path_text nodes quota.folder ∷ [])

-- and, below it, its thresholds
abbrev pub quota_lines : Capacity → List NodeRow → QuotaRow → List ℕ
quota_lines K nodes quota = quota_line K nodes quota ++ threshold_lines quota.thresholds

-- the quotas that are asked for: that of a folder, or all
abbrev pub asked : Option ℕ → List QuotaRow → List QuotaRow
asked None quotas = quotas
asked (Some folder) quotas = filter (λ quota. folder_of quota == folder) quotas

-- the lines of a list
abbrev pub list_lines : Capacity → Rows → Ask → List ℕ
list_lines K R (Quotas folder) = flat_map (quota_lines K R.nodes) (asked folder R.quotas)
list_lines K R Templates = flat_map template_lines R.templates
list_lines K R Autos = flat_map (auto_lines R.nodes R.templates) R.autos
list_lines K R Groups = flat_map group_lines R.groups
list_lines K R Screens = flat_map (screen_lines R.nodes R.groups) R.screens
list_lines K R Excepts = flat_map (except_lines R.nodes R.groups) R.excepts
list_lines K R Jobs = flat_map (job_lines R.nodes) R.jobs
list_lines K R Settings = settings_lines K R
list_lines K R Acts = log_lines R.acts

-- whether the reply shows the rows of a report, which are handed to its writer as a table
abbrev pub is_report : Outcome → Bool
is_report (Done passive) = false
is_report (Sum node bytes) = false
is_report (Listing ask) = false
is_report (Report ask) = true
is_report (Scanned folder visited used) = false
is_report (Refused refusal) = false

-- the lines below the first, for a command of this moment, on which the rows of some reports depend
abbrev pub body : Capacity → Rows → ℕ → Outcome → List ℕ
body K R moment (Done passive) = passive_line R.nodes passive
body K R moment (Sum node bytes) = body_line (decimal bytes ∷ path_text R.nodes node ∷ [])
body K R moment (Listing ask) = list_lines K R ask
body K R moment (Report ask) = report_lines K R ask moment
body K R moment (Scanned folder visited used) = []
body K R moment (Refused refusal) = []

-- the head and the body of the reply to a line, in the rows after it
abbrev pub reply : Capacity → Rows → ℕ → ℕ → Outcome → List ℕ
reply K R moment line outcome = head_line R.nodes line outcome ++ body K R moment outcome
