-- The parts of actions and of notifications, between their commas.
use Rattle.std.specs.Prelude.{◌≡◌, ℕ, ◌&&◌, Bool, true, List, None, Ok}
use Rattle.std.specs.List.{after_first, before_first, list_any}
use Rattle.fsrm_model.specs.declared.command.Added.{Added}
use Rattle.fsrm_model.specs.declared.command.Refusal.TheVariants.{BadLine, InvalidName}
use Rattle.fsrm_model.specs.declared.row.Action.{Action}
use Rattle.fsrm_model.specs.texts.ActionWords.{is_comma, kind_named, minutes_from, percent_from}
use Rattle.fsrm_model.specs.lines.Reading.{Read, ◌>>=◌, guarded, known}
use Rattle.fsrm_model.specs.objects.Thresholds.{is_action_text}

-- what stands before the first comma of a text that has one, and what stands after it
pub record IsParted (text front rest : List ℕ) : Type 0 where
  pub some : list_any is_comma text ≡ true
  pub front_is : front ≡ before_first is_comma text
  pub rest_is : rest ≡ after_first is_comma text

-- what stands before the two commas of an action, between them, and after them
pub record AreParts (text kind minutes words : List ℕ) : Type 0 where
  pub rest : List ℕ
  pub first : IsParted text kind rest
  pub second : IsParted rest minutes words

-- whether a text has these two commas
abbrev pub has_action_commas : List ℕ → Bool
has_action_commas text = list_any is_comma text && list_any is_comma (after_first is_comma text)

-- an action of these parts, in a word at a column
abbrev pub action_of : ℕ → List ℕ → List ℕ → List ℕ → Read Action
action_of column kind_text minutes_text text = do
  kind ← known (BadLine column) (kind_named kind_text)
  minutes ← minutes_from column minutes_text
  words ← guarded (is_action_text text) InvalidName text
  Ok (record { kind = kind; minutes = minutes; text = words; last_run = None })

-- a notification of a percentage and of an action's parts
abbrev pub added_from : ℕ → List ℕ → List ℕ → List ℕ → List ℕ → Read Added
added_from column percent_text kind_text minutes_text text = do
  percent ← percent_from column percent_text
  action ← action_of column kind_text minutes_text text
  Ok (record { percent = percent; action = action })
