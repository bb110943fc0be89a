-- Parts of lines. Those that are marked unfoldable are opaque, so that goals that carry them stay small.
use Rattle.std.specs.Prelude.{ℕ, ◌==◌, Bool, true, false, List, [], ◌∷◌, ◌++◌, codes, decimal, Option, Some, None, if◌then◌else◌}
use Rattle.fsrm_model.specs.declared.row.ActRow.{ActRow}
use Rattle.fsrm_model.specs.declared.row.Action.{Action}
use Rattle.fsrm_model.specs.declared.row.AutoRow.{AutoRow}
use Rattle.fsrm_model.specs.declared.row.Capacity.{Capacity}
use Rattle.fsrm_model.specs.declared.row.ExceptRow.{ExceptRow}
use Rattle.fsrm_model.specs.declared.row.GroupRow.{GroupRow}
use Rattle.fsrm_model.specs.declared.row.NodeRow.{NodeRow}
use Rattle.fsrm_model.specs.declared.row.QuotaRow.{QuotaRow}
use Rattle.fsrm_model.specs.declared.row.ScreenRow.{ScreenRow}
use Rattle.fsrm_model.specs.declared.row.TemplateRow.{TemplateRow}
use Rattle.fsrm_model.specs.declared.row.Threshold.{Threshold}
use Rattle.fsrm_model.specs.declared.command.Act.{Act}
use Rattle.fsrm_model.specs.declared.command.Outcome.{Outcome}
use Rattle.fsrm_model.specs.declared.command.Refusal.{Refusal}
use Rattle.fsrm_model.specs.declared.command.Refusal.TheVariants.{BadLine}
use Rattle.fsrm_model.specs.declared.command.Outcome.TheVariants.{Listing, Report}
use Rattle.fsrm_model.specs.texts.ActText.{at_lines, entry_line, subject_words}
use Rattle.fsrm_model.specs.texts.ActionWords.{action_words, kind_word}
use Rattle.fsrm_model.specs.texts.Printed.{deep_line, labelled_line, type_word}
use Rattle.fsrm_model.specs.texts.ScreenText.{do_line, except_lines, group_lines, named_line, screen_lines}
use Rattle.fsrm_model.specs.texts.TemplateText.{auto_lines, template_lines}
use Rattle.fsrm_model.specs.texts.Text.{body_line, quota_line, quota_lines, state_word}
use Rattle.line_parts.specs.Moments.{moment_text}

unfoldable pub line_text : Capacity → List NodeRow → QuotaRow → List ℕ
line_text K nodes quota = quota_line K nodes quota

-- the same with the lines of its thresholds
unfoldable pub lines_text : Capacity → List NodeRow → QuotaRow → List ℕ
lines_text K nodes quota = quota_lines K nodes quota

unfoldable pub action_line : ℕ → Action → List ℕ
action_line percent action = deep_line (codes "at" ∷ decimal percent ∷ action_words action)

unfoldable pub threshold_text : Threshold → List ℕ
threshold_text threshold = at_lines (decimal threshold.percent) threshold.actions

unfoldable pub entry_text : ActRow → List ℕ
entry_text entry = entry_line entry

-- what an entry of this percentage and this folder belongs to, after its moment
abbrev pub subject_text : ℕ → ℕ → List ℕ
subject_text percent folder =
    if percent == 0 then codes " screen " ++ decimal folder else codes " quota " ++ (decimal folder ++ 32 ∷ decimal percent)

-- the line of a text after its label
unfoldable pub labelled_text : List ℕ → List ℕ → List ℕ
labelled_text label text = labelled_line label text

-- the lines of a group
unfoldable pub group_text : GroupRow → List ℕ
group_text group = group_lines group

-- the line of a group that is named by its number
unfoldable pub named_text : List GroupRow → ℕ → List ℕ
named_text groups number = named_line groups number

-- the lines of a screen, and that of one of its actions
unfoldable pub do_text : Action → List ℕ
do_text action = do_line action

unfoldable pub screen_text : List NodeRow → List GroupRow → ScreenRow → List ℕ
screen_text nodes groups screen = screen_lines nodes groups screen

unfoldable pub except_text : List NodeRow → List GroupRow → ExceptRow → List ℕ
except_text nodes groups except = except_lines nodes groups except

-- the lines of a template, and those of an auto-apply quota
unfoldable pub template_text : TemplateRow → List ℕ
template_text template = template_lines template

unfoldable pub auto_text : List NodeRow → List TemplateRow → AutoRow → List ℕ
auto_text nodes templates auto = auto_lines nodes templates auto

-- the line of an act, whose folder has this path, and whose action this text
abbrev pub act_text : Act → List ℕ → List ℕ → List ℕ
act_text act path text =
    body_line (codes "act" ∷ subject_words act.subject ++ kind_word act.kind ∷ (path ++ codes "|" ++ text) ∷ [])

-- a quota that doesn't count shows no bytes that are used
abbrev pub used_word : Option ℕ → List ℕ
used_word (Some bytes) = decimal bytes
used_word None = codes "-"

-- a line of a list, of a quota whose folder has this usage and this path
abbrev pub quota_text : QuotaRow → Option ℕ → List ℕ → List ℕ
quota_text quota used path =
    body_line (decimal quota.limit ∷ type_word quota.enforce ∷ state_word quota.state ∷ used_word used
    ∷ decimal quota.peak ∷ moment_text quota.peak_at ∷ path ∷ [])

-- whether the reply to an outcome is more than its first lines: a list or a report
abbrev pub is_long : Outcome → Bool
is_long (Listing ask) = true
is_long (Report ask) = true
is_long other = false

-- whether a refusal carries a column
abbrev pub carries_column : Refusal → Bool
carries_column (BadLine column) = true
carries_column other = false
