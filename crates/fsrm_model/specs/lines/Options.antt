-- The options of the tools' commands: words of the form /Name:value, in any order.
use Rattle.std.specs.Prelude.{ℕ, ◌==◌, ◌&&◌, not, nat_le, Bool, true, false, List, [], ◌∷◌, ◌++◌, count_by, find, filter_map, codes, bytes_eq, Ok, Option, None, if◌then◌else◌}
use Rattle.std.specs.List.{list_any, before_first, after_first}
use Rattle.std.specs.Option.{option_or}
use Rattle.std.specs.Str.{str_eq_ignore_ascii_case}
use Rattle.fsrm_model.specs.declared.command.Refusal.TheVariants.{BadLine, OutOfRange}
use Rattle.fsrm_model.specs.lines.ValueForms.{ValueForm, PathForm, LimitForm, NumberForm, ChoiceForm, UpdateForm, ObjectForm, NameForm, MembersForm, NonMembersForm, NoticeForm, ActionForm, ReportForm, PatternForm, ScheduleForm, Value, value_from, same_form}
use Rattle.fsrm_model.specs.values.Limits.{greatest_percent, last_owner, longest_file, most_days, most_excluded, most_minutes, most_rows, most_use}
use Rattle.fsrm_model.specs.lines.Reading.{Read, ◌>>=◌, guarded, known}
use Rattle.fsrm_model.specs.lines.Words.{Word}

-- how often an option may be given
pub data Times : Type 0 where
  Once : Times
  Repeated : Times
  AtMost : (most : ℕ) → Times

-- An option that commands take, as one row: its name, which is read without regard to the case of ASCII letters,
-- how often it may be given, and the form of its value. Two options may share a name, as the /Type of a quota and
-- that of a screen, but no command takes both
pub record Key : Type 0 where
  pub name : List ℕ
  pub times : Times
  pub form : ValueForm

abbrev pub once : List ℕ → ValueForm → Key
once name form = record { name = name; times = Once; form = form }

abbrev pub repeated : List ℕ → ValueForm → Key
repeated name form = record { name = name; times = Repeated; form = form }

abbrev pub at_most : ℕ → List ℕ → ValueForm → Key
at_most most name form = record { name = name; times = AtMost most; form = form }

-- ---- the options of all commands
abbrev pub path_key : Key
path_key = once (codes "/Path") PathForm

abbrev pub limit_key : Key
limit_key = once (codes "/Limit") LimitForm

abbrev pub quota_type_key : Key
quota_type_key = once (codes "/Type") (ChoiceForm (codes "hard") (codes "soft"))

abbrev pub status_key : Key
status_key = once (codes "/Status") (ChoiceForm (codes "enabled") (codes "disabled"))

abbrev pub remove_threshold_key : Key
remove_threshold_key = repeated (codes "/Remove-Threshold") (NumberForm 1 greatest_percent)

abbrev pub add_threshold_key : Key
add_threshold_key = repeated (codes "/Add-Threshold") (NumberForm 1 greatest_percent)

abbrev pub add_notification_key : Key
add_notification_key = repeated (codes "/Add-Notification") NoticeForm

abbrev pub template_key : Key
template_key = once (codes "/Template") ObjectForm

abbrev pub source_template_key : Key
source_template_key = once (codes "/SourceTemplate") ObjectForm

abbrev pub update_derived_key : Key
update_derived_key = once (codes "/UpdateDerived") UpdateForm

abbrev pub exclude_key : Key
exclude_key = at_most most_excluded (codes "/Exclude") NameForm

abbrev pub run_limit_key : Key
run_limit_key = once (codes "/RunLimitInterval") (NumberForm 0 most_minutes)

abbrev pub filegroup_key : Key
filegroup_key = once (codes "/Filegroup") ObjectForm

abbrev pub members_key : Key
members_key = once (codes "/Members") MembersForm

abbrev pub non_members_key : Key
non_members_key = once (codes "/NonMembers") NonMembersForm

abbrev pub screen_type_key : Key
screen_type_key = once (codes "/Type") (ChoiceForm (codes "active") (codes "passive"))

abbrev pub remove_filegroup_key : Key
remove_filegroup_key = repeated (codes "/Remove-Filegroup") ObjectForm

abbrev pub add_filegroup_key : Key
add_filegroup_key = repeated (codes "/Add-Filegroup") ObjectForm

abbrev pub screen_notification_key : Key
screen_notification_key = repeated (codes "/Add-Notification") ActionForm

abbrev pub task_key : Key
task_key = once (codes "/Task") ObjectForm

abbrev pub report_key : Key
report_key = once (codes "/Report") ReportForm

abbrev pub scope_key : Key
scope_key = once (codes "/Scope") PathForm

abbrev pub schedule_key : Key
schedule_key = once (codes "/Schedule") ScheduleForm

abbrev pub owner_key : Key
owner_key = once (codes "/Owner") (NumberForm 1 last_owner)

abbrev pub pattern_key : Key
pattern_key = once (codes "/Pattern") PatternForm

abbrev pub min_size_key : Key
min_size_key = once (codes "/MinSize") (NumberForm 0 longest_file)

abbrev pub days_key : Key
days_key = once (codes "/Days") (NumberForm 0 most_days)

abbrev pub min_use_key : Key
min_use_key = once (codes "/MinUse") (NumberForm 0 most_use)

abbrev pub max_key : Key
max_key = once (codes "/Max") (NumberForm 1 most_rows)

-- ---- what is given
-- an option, with its value
pub record Given : Type 0 where
  pub key : Key
  pub value : Value

-- whether two options are the same, in all that their rows say
abbrev pub same_times : Times → Times → Bool
same_times Once Once = true
same_times Repeated Repeated = true
same_times (AtMost most) (AtMost other) = most == other
same_times times other = false

abbrev pub is_same : Key → Key → Bool
is_same key other = bytes_eq key.name other.name && (same_times key.times other.times && same_form key.form other.form)

-- whether what is given is of this option
abbrev pub is_of : Key → Given → Bool
is_of key given = is_same key given.key

-- whether no two options are the same
abbrev pub are_apart : List Key → Bool
are_apart [] = true
are_apart (key ∷ keys) = not (list_any (λ (other : Key). is_same other key) keys) && are_apart keys

-- the value of what is given, if it is of this option
abbrev pub its : {X : Type 0} → (Value → Option X) → Key → Given → Option X
its of key given = if is_of key given then of given.value else None

-- the first value among what was given
abbrev pub first_in : {X : Type 0} → (Given → Option X) → List Given → Option X
first_in value [] = None
first_in value (given ∷ more) = option_or (value given) (first_in value more)

-- the value of an option, the first one if it was given more often
abbrev pub one : {X : Type 0} → (Value → Option X) → Key → List Given → Option X
one of key given = first_in (its of key) given

-- all its values, in the order in which they were given
abbrev pub each_of : {X : Type 0} → (Value → Option X) → Key → List Given → List X
each_of of key given = filter_map (its of key) given

abbrev pub is_colon : ℕ → Bool
is_colon b = b == 58

-- the option of a name, among those that a command takes
abbrev pub key_named : List Key → List ℕ → Option Key
key_named keys name = find (λ (key : Key). str_eq_ignore_ascii_case key.name name) keys

-- the option that a word gives. A word without a colon gives none
abbrev pub word_key : List Key → List ℕ → Option Key
word_key keys text = if list_any is_colon text then key_named keys (before_first is_colon text) else None

-- whether an option that was given so often may be given again, which is judged before its value
abbrev pub may_repeat : Times → ℕ → Bool
may_repeat Once n = n == 0
may_repeat other n = true

-- and whether it was given as often as it may be, which is judged after its value
abbrev pub is_full : Times → ℕ → Bool
is_full (AtMost most) n = nat_le most n
is_full other n = false

-- how often an option was given
abbrev pub times_in : Key → List Given → ℕ
times_in key given = count_by (is_of key) given

-- one more option after those that were given
abbrev pub with_option : Key → ℕ → List ℕ → List Given → Read (List Given)
with_option key column text given = do
  fresh ← guarded (may_repeat key.times (times_in key given)) (BadLine column) key
  value ← value_from fresh.form column text
  guarded (not (is_full key.times (times_in key given))) OutOfRange (given ++ record { key = key; value = value } ∷ [])

-- the options that words give, after those that were given
abbrev pub options : List Key → List Word → List Given → Read (List Given)
options keys [] given = Ok given
options keys (word ∷ words) given = do
  key ← known (BadLine word.column) (word_key keys word.text)
  more ← with_option key word.column (after_first is_colon word.text) given
  options keys words more
