-- What a program keeps of the two files of a store: whether they are opened, and what of them is known to be stable.
use Rattle.std.specs.Prelude.{◌≡◌, ◌&&◌, Bool, false, Option, Some, None, ⊤}
use Rattle.std.specs.declared.fs.File.{File}
use Rattle.fsrm_outside.specs.declared.files.Opened.{Opened}
use Rattle.fsrm_outside.specs.declared.files.Opened.TheVariants.{NotYet, Both, Refused}
use Rattle.fsrm_outside.specs.declared.traits.Part.{Part}
use Rattle.fsrm_outside.specs.declared.traits.Part.TheVariants.{Zero, One}

-- the file of a part, if both are opened
abbrev pub file_of : Part → Opened → Option File
file_of Zero (Both zero one named) = Some zero.file
file_of One (Both zero one named) = Some one.file
file_of part NotYet = None
file_of part Refused = None

-- whether both files are opened, and all that they hold is stable, and so are their names
abbrev pub all_stable : Opened → Bool
all_stable (Both zero one named) = zero.is_stable && (one.is_stable && named)
all_stable NotYet = false
all_stable Refused = false

-- the same, but what that part holds isn't stable
abbrev pub unsettled : Part → Opened → Opened
unsettled Zero (Both zero one named) = Both (record zero { is_stable = false }) one named
unsettled One (Both zero one named) = Both zero (record one { is_stable = false }) named
unsettled part NotYet = NotYet
unsettled part Refused = Refused

-- both files were opened now, so nothing of them is known to be stable; or that was refused
abbrev pub IsFresh : Opened → Type 0
IsFresh (Both zero one named) = (zero.is_stable ≡ false) × (one.is_stable ≡ false) × (named ≡ false)
IsFresh NotYet = ⊥
IsFresh Refused = ⊤
