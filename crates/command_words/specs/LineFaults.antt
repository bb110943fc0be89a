-- Why a part of a line is refused.
use Rattle.std.specs.Prelude.{◌≡◌, Result, Ok, Err, List, [], ◌∷◌}
use Rattle.fsrm_model.specs.declared.command.Refusal.TheVariants.{BadLine}
use Rattle.fsrm_model.specs.lines.Reading.{Read}
use Rattle.fsrm_model.specs.lines.Words.{Word}
use Rattle.command_words.specs.declared.fault.LineFault.{LineFault}
use Rattle.command_words.specs.declared.fault.LineFault.TheVariants.{Refused, NoMemory}

-- a part of a line gives what it reads as, unless memory runs out
abbrev pub Reads : {X : Type 0} → Result X LineFault → Read X → Type 0
Reads (Ok x) read = read ≡ Ok x
Reads (Err (Refused refusal)) read = read ≡ Err refusal
Reads (Err NoMemory) read = Unit {0}

-- no word is left, or the first that is left is refused
abbrev pub IsLast : Result (Unit {0}) LineFault → List Word → Type 0
IsLast (Ok done) given = given ≡ []
IsLast (Err fault) given = (word : Word) × (words : List Word) × (given ≡ word ∷ words) × (fault ≡ Refused (BadLine word.column))
