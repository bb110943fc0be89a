-- What screens do to a file operation.
use Rattle.std.specs.Prelude.{◌≡◌, ℕ, true, List, Option}
use Rattle.fsrm_base.specs.Keyed.{row_of}
use Rattle.fsrm_model.specs.declared.command.Act.{Act}
use Rattle.fsrm_model.specs.declared.command.Answer.{Answer}
use Rattle.fsrm_model.specs.declared.command.Outcome.TheVariants.{Refused}
use Rattle.fsrm_model.specs.declared.command.Refusal.TheVariants.{ScreenBlocked}
use Rattle.fsrm_model.specs.declared.row.ScreenRow.{ScreenRow}
use Rattle.fsrm_model.specs.objects.Audits.{audit_of, with_audit}
use Rattle.fsrm_model.specs.objects.DueActions.{due_screen}
use Rattle.fsrm_model.specs.objects.Screens.{screen_folder}
use Rattle.fsrm_model.specs.commands.Work.{Judged}
use Rattle.file_screens.specs.declared.answer.Blocked.{Blocked}
use Rattle.thresholds.specs.Settled.{SettlesScreen}
use Rattle.fsrm_engine.specs.declared.parts.Parts.{Parts}
use Rattle.fsrm_engine.specs.Machine.{ended}

-- the screen of this folder, as it is there
abbrev pub judged_screen : Parts → Blocked → Option ScreenRow
judged_screen parts judged = row_of screen_folder judged.screen parts.objects.screens

-- acts of a screen ran at a moment, and are marked: nothing else changed
pub record RanScreen (old new : Parts) (moment : ℕ) (acts : List Act) : Type 0 where
  pub parts_are : new ≡ record old { objects = new.objects; marks = new.marks }
  pub settles : SettlesScreen old.marks new.marks old.objects new.objects moment acts

-- parts with the entry of a name
abbrev pub audited_parts : ℕ → Judged → Parts → Parts
audited_parts moment judged parts = record parts { audit = with_audit (audit_of moment judged) parts.audit }

-- a name that a screen judges is noted
abbrev pub NotesName : Parts → Parts → Judged → ℕ → Type 0
NotesName old new judged moment =
    RanScreen (audited_parts moment judged old) new moment (due_screen old.run_limit moment judged.screen)

-- a name that a screen blocks is noted, and the command ends
pub record Blocks (old new : Parts) (judged : Judged) (moment : ℕ) (answer : Answer) : Type 0 where
  pub between : Parts
  pub notes : NotesName old between judged moment
  pub ends : new ≡ ended between moment
  pub answer_is : answer ≡ record { outcome = Refused (ScreenBlocked judged.screen.folder); lasting = true }
