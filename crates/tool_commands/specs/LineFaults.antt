-- Why a line is refused.
use Rattle.std.specs.Prelude.{◌≡◌, ℕ, Result, Ok, Err, Option, Some, None}
use Rattle.fsrm_model.specs.declared.command.Command.{Command}
use Rattle.fsrm_model.specs.declared.command.Deed.{Deed}
use Rattle.fsrm_model.specs.declared.command.Refusal.TheVariants.{BadLine}
use Rattle.fsrm_model.specs.lines.Reading.{Read, ◌>>=◌, known}
use Rattle.fsrm_model.specs.lines.Tools.{Names, named}
use Rattle.fsrm_model.specs.lines.Words.{Word}
use Rattle.command_words.specs.declared.fault.LineFault.{LineFault}
use Rattle.command_words.specs.declared.fault.LineFault.TheVariants.{Refused, NoMemory}
use Rattle.command_words.specs.LineFaults.{Reads}

-- a fault says that memory ran out, or is the refusal that a line reads as
abbrev pub IsFault : LineFault → Option (Read Command) → Type 0
IsFault (Refused refusal) read = read ≡ Some (Err refusal)
IsFault NoMemory read = Unit {0}

-- a part that reads a deed of one family gives that deed, unless memory runs out
abbrev pub ReadsIn : {X : Type 0} → (X → Deed) → Result X LineFault → Read Deed → Type 0
ReadsIn deed (Ok x) read = read ≡ Ok (deed x)
ReadsIn deed (Err fault) read = Reads {X = Deed} (Err fault) read

-- a line that isn't skipped gives the command that its words read as, unless memory runs out
abbrev pub ReadsWords : Result (Option Command) LineFault → Read Command → Type 0
ReadsWords (Ok None) read = ⊥
ReadsWords (Ok (Some command)) read = read ≡ Ok command
ReadsWords (Err fault) read = Reads {X = Command} (Err fault) read

-- what is to be done, at its moment
abbrev pub at_moment : ℕ → Read Deed → Read Command
at_moment moment read = do
  deed ← read
  Ok (record { moment = moment; deed = deed })

-- what the name that a word is stands for goes on
abbrev pub named_by : {X Y : Type 0} → Names X → Word → (X → Read Y) → Read Y
named_by names word next = known (BadLine word.column) (named names word.text) >>= next
