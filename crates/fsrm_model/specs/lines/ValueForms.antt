-- The forms of the values that options have, and how a text is read as a value of each.
use Rattle.std.specs.Prelude.{ℕ, ◌==◌, ◌&&◌, Bool, true, false, List, bytes_eq, Ok, Option, Some, None}
use Rattle.fsrm_model.specs.declared.command.Added.{Added}
use Rattle.fsrm_model.specs.declared.command.Update.{Update}
use Rattle.fsrm_model.specs.declared.row.Action.{Action}
use Rattle.fsrm_model.specs.declared.row.ReportKind.{ReportKind}
use Rattle.fsrm_model.specs.texts.ActionWords.{action_from, notice_from}
use Rattle.fsrm_model.specs.texts.ReportWords.{report_from, pattern_from, schedule_from}
use Rattle.fsrm_model.specs.lines.GroupWords.{object_from, patterns_from, non_members_from}
use Rattle.fsrm_model.specs.lines.Reading.{Read, ◌>>=◌, number_from, path_from, limit_from, choice_from}
use Rattle.fsrm_model.specs.lines.TemplateWords.{update_from, name_from}

pub data ValueForm : Type 0 where
  PathForm : ValueForm
  LimitForm : ValueForm
  NumberForm : (low high : ℕ) → ValueForm
  -- one of two words, in letters of either case
  ChoiceForm : (first second : List ℕ) → ValueForm
  UpdateForm : ValueForm
  -- the name of a file group, a template or a report job, and that of a folder
  ObjectForm : ValueForm
  NameForm : ValueForm
  -- the patterns of a file group: its members, one at least, and its non-members, of which there may be none
  MembersForm : ValueForm
  NonMembersForm : ValueForm
  -- a threshold with an action, and an action alone
  NoticeForm : ValueForm
  ActionForm : ValueForm
  -- what a report is about, one pattern, and the schedule of a job
  ReportForm : ValueForm
  PatternForm : ValueForm
  ScheduleForm : ValueForm

-- a value of some form. Forms share the kinds of values: limits, percentages and minutes are all numbers
pub data Value : Type 0 where
  PathValue : (path : List (List ℕ)) → Value
  NumberValue : (n : ℕ) → Value
  ChoiceValue : (is_first : Bool) → Value
  UpdateValue : (update : Update) → Value
  TextValue : (text : List ℕ) → Value
  TextsValue : (texts : List (List ℕ)) → Value
  NoticeValue : (notice : Added) → Value
  ActionValue : (action : Action) → Value
  ReportValue : (kind : ReportKind) → Value

-- the value that a text is, if it has the form. Its word begins at this column
abbrev pub value_from : ValueForm → ℕ → List ℕ → Read Value
value_from PathForm column text = path_from text >>= λ path. Ok (PathValue path)
value_from LimitForm column text = limit_from column text >>= λ limit. Ok (NumberValue limit)
value_from (NumberForm low high) column text = number_from low high column text >>= λ n. Ok (NumberValue n)
value_from (ChoiceForm first second) column text =
    choice_from first second column text >>= λ picked. Ok (ChoiceValue picked)
value_from UpdateForm column text = update_from column text >>= λ update. Ok (UpdateValue update)
value_from ObjectForm column text = object_from text >>= λ name. Ok (TextValue name)
value_from NameForm column text = name_from text >>= λ name. Ok (TextValue name)
value_from MembersForm column text = patterns_from text >>= λ patterns. Ok (TextsValue patterns)
value_from NonMembersForm column text = non_members_from text >>= λ patterns. Ok (TextsValue patterns)
value_from NoticeForm column text = notice_from column text >>= λ notice. Ok (NoticeValue notice)
value_from ActionForm column text = action_from column text >>= λ action. Ok (ActionValue action)
value_from ReportForm column text = report_from column text >>= λ kind. Ok (ReportValue kind)
value_from PatternForm column text = pattern_from text >>= λ pattern. Ok (TextValue pattern)
value_from ScheduleForm column text = schedule_from text >>= λ schedule. Ok (TextValue schedule)

-- what a value is, if it is of this kind
abbrev pub path_of : Value → Option (List (List ℕ))
path_of (PathValue path) = Some path
path_of other = None

abbrev pub number_of : Value → Option ℕ
number_of (NumberValue n) = Some n
number_of other = None

abbrev pub choice_of : Value → Option Bool
choice_of (ChoiceValue is_first) = Some is_first
choice_of other = None

abbrev pub update_of : Value → Option Update
update_of (UpdateValue update) = Some update
update_of other = None

abbrev pub text_of : Value → Option (List ℕ)
text_of (TextValue text) = Some text
text_of other = None

abbrev pub texts_of : Value → Option (List (List ℕ))
texts_of (TextsValue texts) = Some texts
texts_of other = None

abbrev pub notice_of : Value → Option Added
notice_of (NoticeValue notice) = Some notice
notice_of other = None

abbrev pub action_of : Value → Option Action
action_of (ActionValue action) = Some action
action_of other = None

abbrev pub report_of : Value → Option ReportKind
report_of (ReportValue kind) = Some kind
report_of other = None

-- whether two forms are the same
abbrev pub same_form : ValueForm → ValueForm → Bool
same_form PathForm PathForm = true
same_form LimitForm LimitForm = true
same_form (NumberForm low high) (NumberForm least most) = (low == least) && (high == most)
same_form (ChoiceForm first second) (ChoiceForm one other) = bytes_eq first one && bytes_eq second other
same_form UpdateForm UpdateForm = true
same_form ObjectForm ObjectForm = true
same_form NameForm NameForm = true
same_form MembersForm MembersForm = true
same_form NonMembersForm NonMembersForm = true
same_form NoticeForm NoticeForm = true
same_form ActionForm ActionForm = true
same_form ReportForm ReportForm = true
same_form PatternForm PatternForm = true
same_form ScheduleForm ScheduleForm = true
same_form form other = false
