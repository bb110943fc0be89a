-- Which lines spell which commands, apart from any reader.
use Rattle.std.specs.Prelude.{◌≡◌, ℕ, ◌*◌, ◌≤◌, ◌<◌, ◌⊎◌, List, [], ◌∷◌, ◌++◌, codes, length, Bool, true, false, ℤ, pos, negsuc, Some, None}
use Rattle.std.specs.Char.{is_ascii_digit}
use Rattle.std.specs.List.{list_all, list_any, join_with_byte}
use Rattle.std.specs.Str.{is_utf8, str_eq_ignore_ascii_case}
use Rattle.std.specs.Str.Parse.{digits_value}
use Rattle.fsrm_model.specs.declared.command.Added.{Added}
use Rattle.fsrm_model.specs.declared.command.Command.{Command}
use Rattle.fsrm_model.specs.declared.command.Deed.{Deed}
use Rattle.fsrm_model.specs.declared.command.Deed.TheVariants.{File, Usage, Step}
use Rattle.fsrm_model.specs.declared.command.FileOp.{FileOp}
use Rattle.fsrm_model.specs.declared.command.FileOp.TheVariants.{Mkdir, Create, Resize, Touch, Move, Remove}
use Rattle.fsrm_model.specs.declared.row.Action.{Action}
use Rattle.fsrm_model.specs.texts.ActionWords.{kind_word}
use Rattle.fsrm_model.specs.texts.ReportWords.{report_word}
use Rattle.fsrm_model.specs.values.Limits.{latest_moment, longest_file, longest_line, last_owner, most_visits, greatest_percent, most_minutes, most_patterns}
use Rattle.fsrm_model.specs.values.Name.{is_name}
use Rattle.fsrm_model.specs.lines.ValueForms.{ValueForm, PathForm, LimitForm, NumberForm, ChoiceForm, UpdateForm, ObjectForm, NameForm, MembersForm, NonMembersForm, NoticeForm, ActionForm, ReportForm, PatternForm, ScheduleForm, Value, PathValue, NumberValue, ChoiceValue, UpdateValue, TextValue, TextsValue, NoticeValue, ActionValue, ReportValue}
use Rattle.fsrm_model.specs.lines.Options.{Times, Once, Repeated, AtMost, Key, Given, times_in, is_colon, key_named}
use Rattle.fsrm_model.specs.values.Patterns.{is_object_name, is_pattern}
use Rattle.fsrm_model.specs.objects.Jobs.{is_schedule}
use Rattle.fsrm_model.specs.objects.Quota.{is_limit}
use Rattle.fsrm_model.specs.lines.Reading.{is_number, unit_bytes}
use Rattle.fsrm_model.specs.lines.TemplateWords.{update_word}
use Rattle.fsrm_model.specs.objects.Thresholds.{is_action_text}
use Rattle.fsrm_model.specs.lines.Tools.{Names, named, ToolCommand, tools}
use Rattle.fsrm_model.specs.lines.Words.{is_blank, is_quote}

-- a piece of a word: a byte that is neither blank nor quote, or whatever stands between two quotes
pub data Piece : Type 0 where
  Plain : (byte : ℕ) → Piece
  Quoted : (bytes : List ℕ) → Piece

abbrev pub IsPiece : Piece → Type 0
IsPiece (Plain byte) = (is_blank byte ≡ false) × (is_quote byte ≡ false)
IsPiece (Quoted bytes) = list_any is_quote bytes ≡ false

abbrev pub ArePieces : List Piece → Type 0
ArePieces [] = Unit {0}
ArePieces (piece ∷ pieces) = IsPiece piece × ArePieces pieces

-- pieces as they are spelled, and the text that they stand for
abbrev pub spelled_pieces : List Piece → List ℕ
spelled_pieces [] = []
spelled_pieces (Plain byte ∷ pieces) = byte ∷ spelled_pieces pieces
spelled_pieces (Quoted bytes ∷ pieces) = 34 ∷ bytes ++ 34 ∷ spelled_pieces pieces

abbrev pub text_of_pieces : List Piece → List ℕ
text_of_pieces [] = []
text_of_pieces (Plain byte ∷ pieces) = byte ∷ text_of_pieces pieces
text_of_pieces (Quoted bytes ∷ pieces) = bytes ++ text_of_pieces pieces

-- a word has at least one piece
pub record SpellsWord (spelling text : List ℕ) : Type 0 where
  pub pieces : List Piece
  pub each : ArePieces pieces
  pub some : 0 < length pieces
  pub spelling_is : spelling ≡ spelled_pieces pieces
  pub text_is : text ≡ text_of_pieces pieces

-- the end of a line, or a blank and what follows it
abbrev pub EndsWord : List ℕ → Type 0
EndsWord [] = Unit {0}
EndsWord (b ∷ bs) = is_blank b ≡ true

-- a line is these words, with blanks between them, and maybe before the first and after the last
abbrev pub SpellsWords : List ℕ → List (List ℕ) → Type 0
SpellsWords line [] = list_all is_blank line ≡ true
SpellsWords line (text ∷ texts) =
    (blanks spelling rest : List ℕ) × (line ≡ blanks ++ (spelling ++ rest)) × (list_all is_blank blanks ≡ true)
    × SpellsWord spelling text × EndsWord rest × SpellsWords rest texts

-- 1 to 20 digits that write a number of a range
pub record Writes (low high : ℕ) (digits : List ℕ) (n : ℕ) : Type 0 where
  pub form : is_number digits ≡ true
  pub value : digits_value 10 digits ≡ n
  pub least : low ≤ n
  pub most : n ≤ high

-- The volume, and the names parted by backslashes. One more may stand after the last name
pub record WritesPath (text : List ℕ) (path : List (List ℕ)) : Type 0 where
  pub each : list_all is_name path ≡ true
  pub volume : List ℕ
  pub volume_is : (volume ≡ codes "D:\\") ⊎ (volume ≡ codes "d:\\")
  pub names :
      (text ≡ volume ++ join_with_byte 92 path)
      ⊎ ((0 < length path) × (text ≡ volume ++ (join_with_byte 92 path ++ 92 ∷ [])))

-- a name, in letters of either case
abbrev pub IsNamed : List ℕ → List ℕ → Type 0
IsNamed name word = str_eq_ignore_ascii_case name word ≡ true

-- one or more digits and a unit that write a limit
pub record WritesLimit (text : List ℕ) (limit : ℕ) : Type 0 where
  pub digits : List ℕ
  pub unit : List ℕ
  pub bytes : ℕ
  pub text_is : text ≡ digits ++ unit
  pub some : 0 < length digits
  pub each : list_all is_ascii_digit digits ≡ true
  pub unit_is : unit_bytes unit ≡ Some bytes
  pub value : digits_value 10 digits * bytes ≡ limit
  pub legal : is_limit limit ≡ true

-- one of two words, in letters of either case
abbrev pub WritesChoice : List ℕ → List ℕ → List ℕ → Bool → Type 0
WritesChoice first second text true = IsNamed first text
WritesChoice first second text false = (str_eq_ignore_ascii_case first text ≡ false) × IsNamed second text

-- a number of minutes, or -1
abbrev pub WritesMinutes : List ℕ → ℤ → Type 0
WritesMinutes text (pos minutes) = Writes 0 most_minutes text minutes
WritesMinutes text (negsuc n) = (n ≡ 0) × (text ≡ codes "-1")

-- the letter of a kind, minutes and a text, parted by commas: an action that never ran
pub record WritesAction (text : List ℕ) (action : Action) : Type 0 where
  pub kind : List ℕ
  pub minutes : List ℕ
  pub text_is : text ≡ kind ++ 44 ∷ (minutes ++ 44 ∷ action.text)
  pub kind_is : IsNamed (kind_word action.kind) kind
  pub minutes_are : WritesMinutes minutes action.minutes
  pub legal : is_action_text action.text ≡ true
  pub new : action.last_run ≡ None

-- a percentage, a comma and an action
pub record WritesNotice (text : List ℕ) (notice : Added) : Type 0 where
  pub percent : List ℕ
  pub action : List ℕ
  pub text_is : text ≡ percent ++ 44 ∷ action
  pub percent_is : Writes 1 greatest_percent percent notice.percent
  pub action_is : WritesAction action notice.action

-- the name of an object is written as it is
pub record WritesObject (text name : List ℕ) : Type 0 where
  pub text_is : text ≡ name
  pub legal : is_object_name name ≡ true

-- and so is a name that is excluded
pub record WritesName (text name : List ℕ) : Type 0 where
  pub text_is : text ≡ name
  pub legal : is_name name ≡ true

-- patterns, so many at least, parted by bars
pub record WritesPatterns (least : ℕ) (text : List ℕ) (patterns : List (List ℕ)) : Type 0 where
  pub text_is : text ≡ join_with_byte 124 patterns
  pub each : list_all is_pattern patterns ≡ true
  pub some : least ≤ length patterns
  pub few : length patterns ≤ most_patterns

-- one pattern is written as it is, and so is a schedule
pub record WritesPattern (text pattern : List ℕ) : Type 0 where
  pub text_is : text ≡ pattern
  pub legal : is_pattern pattern ≡ true

pub record WritesSchedule (text schedule : List ℕ) : Type 0 where
  pub text_is : text ≡ schedule
  pub legal : is_schedule schedule ≡ true

-- a text writes a value of a form
abbrev pub WritesValue : ValueForm → List ℕ → Value → Type 0
WritesValue PathForm text (PathValue path) = WritesPath text path
WritesValue LimitForm text (NumberValue limit) = WritesLimit text limit
WritesValue (NumberForm low high) text (NumberValue n) = Writes low high text n
WritesValue (ChoiceForm first second) text (ChoiceValue picked) = WritesChoice first second text picked
WritesValue UpdateForm text (UpdateValue update) = IsNamed (update_word update) text
WritesValue ObjectForm text (TextValue name) = WritesObject text name
WritesValue NameForm text (TextValue name) = WritesName text name
WritesValue MembersForm text (TextsValue patterns) = WritesPatterns 1 text patterns
WritesValue NonMembersForm text (TextsValue patterns) = WritesPatterns 0 text patterns
WritesValue NoticeForm text (NoticeValue notice) = WritesNotice text notice
WritesValue ActionForm text (ActionValue action) = WritesAction text action
WritesValue ReportForm text (ReportValue kind) = IsNamed (report_word kind) text
WritesValue PatternForm text (TextValue pattern) = WritesPattern text pattern
WritesValue ScheduleForm text (TextValue schedule) = WritesSchedule text schedule
WritesValue form text other = ⊥

-- a word is the name of an option that a command takes, a colon, and the option's value
abbrev pub SpellsOption : List Key → List ℕ → Given → Type 0
SpellsOption keys word given =
    (name value : List ℕ) × (list_any is_colon name ≡ false) × (word ≡ name ++ 58 ∷ value)
    × (key_named keys name ≡ Some given.key) × WritesValue given.key.form value given.value

abbrev pub SpellsEach : List Key → List (List ℕ) → List Given → Type 0
SpellsEach keys [] [] = Unit {0}
SpellsEach keys (word ∷ words) (given ∷ more) = SpellsOption keys word given × SpellsEach keys words more
SpellsEach keys [] (given ∷ more) = ⊥
SpellsEach keys (word ∷ words) [] = ⊥

-- no option is given more often than it may be
abbrev pub IsAllowed : Times → ℕ → Type 0
IsAllowed Once n = n ≤ 1
IsAllowed Repeated n = Unit {0}
IsAllowed (AtMost most) n = n ≤ most

abbrev pub AreAllowed : List Given → Type 0
AreAllowed given = (key : Key) → IsAllowed key.times (times_in key given)

pub record SpellsOptions (keys : List Key) (words : List (List ℕ)) (given : List Given) : Type 0 where
  pub each : SpellsEach keys words given
  pub allowed : AreAllowed given

-- words are the names of a tool, of what it manages and of a command, and the command's options, which ask for a deed
pub record SpellsTool (words : List (List ℕ)) (deed : Deed) : Type 0 where
  pub tool : List ℕ
  pub object : List ℕ
  pub command : List ℕ
  pub rest : List (List ℕ)
  pub words_are : words ≡ tool ∷ object ∷ command ∷ rest
  pub objects : Names (Names ToolCommand)
  pub commands : Names ToolCommand
  pub own : ToolCommand
  pub tool_is : named tools tool ≡ Some objects
  pub object_is : named objects object ≡ Some commands
  pub command_is : named commands command ≡ Some own
  pub given : List Given
  pub options_are : SpellsOptions own.keys rest given
  pub deed_is : own.deed given ≡ Some deed

-- these words are a name and so many values
abbrev pub SpellsOp : List (List ℕ) → FileOp → Type 0
SpellsOp words (Mkdir path owner) =
    (name a b : List ℕ) × (words ≡ name ∷ a ∷ b ∷ []) × IsNamed (codes "mkdir") name
    × WritesPath a path × Writes 1 last_owner b owner
SpellsOp words (Create path bytes owner) =
    (name a b c : List ℕ) × (words ≡ name ∷ a ∷ b ∷ c ∷ []) × IsNamed (codes "create") name × WritesPath a path
    × Writes 0 longest_file b bytes × Writes 1 last_owner c owner
SpellsOp words (Resize path bytes) =
    (name a b : List ℕ) × (words ≡ name ∷ a ∷ b ∷ []) × IsNamed (codes "resize") name
    × WritesPath a path × Writes 0 longest_file b bytes
SpellsOp words (Touch path) =
    (name a : List ℕ) × (words ≡ name ∷ a ∷ []) × IsNamed (codes "touch") name × WritesPath a path
SpellsOp words (Move from to) =
    (name a b : List ℕ) × (words ≡ name ∷ a ∷ b ∷ []) × IsNamed (codes "move") name
    × WritesPath a from × WritesPath b to
SpellsOp words (Remove path) =
    (name a : List ℕ) × (words ≡ name ∷ a ∷ []) × IsNamed (codes "remove") name × WritesPath a path

abbrev pub SpellsPlaced : List (List ℕ) → Deed → Type 0
SpellsPlaced words (File op) = SpellsOp words op
SpellsPlaced words (Usage path) =
    (name a : List ℕ) × (words ≡ name ∷ a ∷ []) × IsNamed (codes "usage") name × WritesPath a path
SpellsPlaced words (Step n) =
    (name a : List ℕ) × (words ≡ name ∷ a ∷ []) × IsNamed (codes "step") name × Writes 1 most_visits a n
SpellsPlaced words other = ⊥

-- words have their places, or are those of a tool
abbrev pub SpellsDeed : List (List ℕ) → Deed → Type 0
SpellsDeed words deed = SpellsPlaced words deed ⊎ SpellsTool words deed

-- what a line is before its words are looked at
pub record IsLine (line : List ℕ) : Type 0 where
  pub short : length line ≤ longest_line
  pub utf8 : is_utf8 line ≡ true

-- a line spells a command by its moment and the command's own words
pub record Spells (line : List ℕ) (command : Command) : Type 0 where
  pub is_line : IsLine line
  pub moment : List ℕ
  pub words : List (List ℕ)
  pub words_are : SpellsWords line (moment ∷ words)
  pub moment_is : Writes 0 latest_moment moment command.moment
  pub deed_is : SpellsDeed words command.deed

-- a line is skipped if it has nothing but blanks, or if its first byte that is no blank is a #
pub record Skips (line : List ℕ) : Type 0 where
  pub is_line : IsLine line
  pub blanks : List ℕ
  pub rest : List ℕ
  pub line_is : line ≡ blanks ++ rest
  pub are_blanks : list_all is_blank blanks ≡ true
  pub none : (rest ≡ []) ⊎ ((comment : List ℕ) × (rest ≡ 35 ∷ comment))
