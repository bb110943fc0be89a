-- Why a path is refused.
use Rattle.std.specs.Prelude.{◌≡◌, ℕ, List, Err}
use Rattle.fsrm_model.specs.declared.command.Refusal.TheVariants.{InvalidPath as PathRefusal, InvalidName as NameRefusal}
use Rattle.fsrm_model.specs.lines.Reading.{Read}
use Rattle.name_rules.specs.declared.path.PathFault.{PathFault}
use Rattle.name_rules.specs.declared.path.PathFault.TheVariants.{InvalidPath, InvalidName, NoMemory}

-- a fault says that memory ran out, or is the one that a text reads as
abbrev pub IsFault : PathFault → Read (List (List ℕ)) → Type 0
IsFault InvalidPath read = read ≡ Err PathRefusal
IsFault InvalidName read = read ≡ Err NameRefusal
IsFault NoMemory read = Unit {0}
