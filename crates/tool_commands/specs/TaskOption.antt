-- The option of commands that take the name of a report job and nothing else.
use Rattle.std.specs.Prelude.{◌≡◌, ℕ, List, Result, Ok, Err}
use Rattle.fsrm_model.specs.declared.command.Deed.{Deed}
use Rattle.fsrm_model.specs.lines.Line.{option_words}
use Rattle.fsrm_model.specs.lines.Tools.{of_task}
use Rattle.fsrm_model.specs.lines.Words.{Word}
use Rattle.command_words.specs.declared.fault.LineFault.{LineFault}
use Rattle.command_words.specs.LineFaults.{Reads}

-- words give the name of a job, of which a command may make any deed that takes a name and nothing else
abbrev pub ReadsTask : Result (List ℕ) LineFault → ℕ → List Word → Type 0
ReadsTask (Ok name) end words = (deed : List ℕ → Deed) → option_words (of_task deed) end words ≡ Ok (deed name)
ReadsTask (Err fault) end words = (deed : List ℕ → Deed) → Reads {X = Deed} (Err fault) (option_words (of_task deed) end words)
