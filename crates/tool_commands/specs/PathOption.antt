-- The option of commands that take a path and nothing else.
use Rattle.std.specs.Prelude.{◌≡◌, ℕ, List, Result, Ok, Err}
use Rattle.fsrm_model.specs.declared.command.Deed.{Deed}
use Rattle.fsrm_model.specs.lines.Line.{option_words}
use Rattle.fsrm_model.specs.lines.Tools.{of_path}
use Rattle.fsrm_model.specs.lines.Words.{Word}
use Rattle.command_words.specs.declared.fault.LineFault.{LineFault}
use Rattle.command_words.specs.LineFaults.{Reads}

-- words give a path, of which a command may make any deed that takes a path and nothing else
abbrev pub ReadsPath : Result (List (List ℕ)) LineFault → ℕ → List Word → Type 0
ReadsPath (Ok path) end words = (deed : List (List ℕ) → Deed) → option_words (of_path deed) end words ≡ Ok (deed path)
ReadsPath (Err fault) end words = (deed : List (List ℕ) → Deed) → Reads {X = Deed} (Err fault) (option_words (of_path deed) end words)
