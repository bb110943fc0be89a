-- The words of actions: how a script gives them, and how a list shows them.
use Rattle.std.specs.Prelude.{ℕ, ◌+◌, ◌==◌, nat_le, Bool, ℤ, pos, negsuc, List, [], ◌∷◌, ◌++◌, find, count_by, decimal, codes, bytes_eq, Option, None, Ok, if◌then◌else◌}
use Rattle.std.specs.List.{before_first, after_first}
use Rattle.std.specs.Str.{str_eq_ignore_ascii_case}
use Rattle.fsrm_model.specs.declared.command.Added.{Added}
use Rattle.fsrm_model.specs.declared.command.Refusal.TheVariants.{BadLine, InvalidName}
use Rattle.fsrm_model.specs.declared.row.Action.{Action}
use Rattle.fsrm_model.specs.declared.row.ActionKind.{ActionKind}
use Rattle.fsrm_model.specs.declared.row.ActionKind.TheVariants.{Event, Mail, Program, Report}
use Rattle.fsrm_model.specs.values.Limits.{greatest_percent, most_minutes}
use Rattle.fsrm_model.specs.lines.Reading.{Read, ◌>>=◌, guarded, known, number_from}
use Rattle.fsrm_model.specs.objects.Thresholds.{is_action_text}

-- a kind is a letter: of event, mail, command and report
abbrev pub kind_word : ActionKind → List ℕ
kind_word Event = codes "e"
kind_word Mail = codes "m"
kind_word Program = codes "c"
kind_word Report = codes "r"

-- the kind of a letter, of either case
abbrev pub kind_named : List ℕ → Option ActionKind
kind_named text = find (λ kind. str_eq_ignore_ascii_case (kind_word kind) text) (Event ∷ Mail ∷ Program ∷ Report ∷ [])

-- minutes are a number, or -1
abbrev pub minutes_word : ℤ → List ℕ
minutes_word (pos minutes) = decimal minutes
minutes_word (negsuc n) = codes "-" ++ decimal (n + 1)

-- how a list shows an action
abbrev pub action_words : Action → List (List ℕ)
action_words action = kind_word action.kind ∷ minutes_word action.minutes ∷ action.text ∷ []

-- ---- in a word at a column of a script's line
abbrev pub percent_from : ℕ → List ℕ → Read ℕ
percent_from column text = number_from 1 greatest_percent column text

abbrev pub minutes_from : ℕ → List ℕ → Read ℤ
minutes_from column text =
    if bytes_eq text (codes "-1") then Ok (negsuc 0) else (number_from 0 most_minutes column text >>= λ minutes. Ok (pos minutes))

abbrev pub is_comma : ℕ → Bool
is_comma b = b == 44

-- a text with so many commas at least. What stands after the last of them may have more
abbrev pub with_commas : ℕ → ℕ → List ℕ → Read (List ℕ)
with_commas n column text = guarded (nat_le n (count_by is_comma text)) (BadLine column) text

-- an action: its kind, its minutes and its text, parted by commas
abbrev pub action_from : ℕ → List ℕ → Read Action
action_from column text = do
  given ← with_commas 2 column text
  kind ← known (BadLine column) (kind_named (before_first is_comma given))
  let rest = after_first is_comma given in do
    minutes ← minutes_from column (before_first is_comma rest)
    words ← guarded (is_action_text (after_first is_comma rest)) InvalidName (after_first is_comma rest)
    Ok (record { kind = kind; minutes = minutes; text = words; last_run = None })

-- a notification: a percentage, a comma and an action. All commas are looked for first
abbrev pub notice_from : ℕ → List ℕ → Read Added
notice_from column text = do
  given ← with_commas 3 column text
  percent ← percent_from column (before_first is_comma given)
  action ← action_from column (after_first is_comma given)
  Ok (record { percent = percent; action = action })
