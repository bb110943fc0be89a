-- A name that a file gets, and the screen that may judge it.
use Rattle.std.specs.Prelude.{◌≡◌, ℕ, List, Option, Some, None, option_map}
use Rattle.std.specs.Option.{option_and_then}
use Rattle.fsrm_model.specs.declared.row.ScreenRow.{ScreenRow}
use Rattle.fsrm_model.specs.commands.Work.{Judged}
use Rattle.file_screens.specs.declared.answer.Blocked.{Blocked}
use Rattle.quota_usage.specs.declared.change.Change.{Change}
use Rattle.fsrm_engine.specs.declared.parts.Parts.{Parts}
use Rattle.fsrm_engine.specs.Due.{charged_acts}
use Rattle.fsrm_engine.specs.Machine.{charged_parts, ended, Ran}
use Rattle.fsrm_engine.specs.Screening.{judged_screen, NotesName}

-- the screen that is told of, if one is
abbrev pub screen_told : Parts → Option Blocked → Option ScreenRow
screen_told parts judged = option_and_then (judged_screen parts) judged

-- the name, and the screen that judges it
abbrev pub name_under : Option ScreenRow → ℕ → ℕ → List ℕ → Option Judged
name_under screen owner folder name =
    option_map (λ (screen : ScreenRow). record { screen = screen; owner = owner; folder = folder; name = name }) screen

-- a name is noted if a screen judges it, and else nothing changes
abbrev pub Reports : Parts → Parts → Option Judged → ℕ → Type 0
Reports old new None moment = new ≡ old
Reports old new (Some judged) moment = NotesName old new judged moment

-- An operation that gave a file a name ends: a passive screen may have reported the name, and then the counters are changed
pub record EndsNamed (old new : Parts) (judged : Option Judged) (change : Change) (moment : ℕ) : Type 0 where
  pub left : Parts
  pub run : Parts
  pub reports : Reports old left judged moment
  pub ran : Ran (charged_parts left change moment) run moment (charged_acts left change moment)
  pub ends : new ≡ ended run moment
