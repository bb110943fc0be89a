-- What the status of a run says.
use Rattle.std.specs.Prelude.{◌≡◌, ℕ, ◌+◌, ◌<◌, List, length, drop, true, false, Option, Some}
use Rattle.fsrm_model.specs.values.Limits.{longest_script}
use Rattle.fsrm_model.specs.declared.row.Capacity.{Capacity}
use Rattle.fsrm_model.specs.declared.row.Rows.{Rows}
use Rattle.fsrm_outside.specs.Changes.{Same, Through}
use Rattle.fsrm_outside.specs.Members.{Members}
use Rattle.fsrm_outside.specs.Parts.{Parts}
use Rattle.fsrm_journal.specs.Formatted.{has_store}
use Rattle.fsrm_store.specs.States.{state_of}
use Rattle.fsrm_store.specs.States.State.{NoState, DamagedAt, Holds}
use Rattle.program_words.specs.declared.modes.Mode.{Mode}
use Rattle.program_words.specs.declared.modes.Mode.TheVariants.{Init, Replay, Show, Outbox}
use Rattle.fsrm_modes.specs.declared.status.Status.{Status}
use Rattle.fsrm_modes.specs.declared.status.Status.TheVariants.{Done, Usage, ReadFault, WriteFault, DiskFault, TooLong, Damaged, NoMemory, NoStore, AlreadyStore}

-- the script has more bytes than are read, and one of them was taken
pub record IsTooLong (script : List ℕ) (left : Option (List ℕ)) : Type 0 where
  pub longer : longest_script < length script
  pub taken : left ≡ Some (drop (longest_script + 1) script)

-- how many bytes a run takes: one more than a script may have, if it is too long
abbrev pub most_taken : Status → ℕ
most_taken TooLong = longest_script + 1
most_taken other = longest_script

-- a fact for a run that a read ended
abbrev pub OnReadStop : Status → Type 0 → Type 0
OnReadStop ReadFault P = P
OnReadStop TooLong P = P
OnReadStop other P = Unit {0}

-- the answers of a run over which no device failed
abbrev pub IsDoneOrNoMemory : Status → Type 0
IsDoneOrNoMemory Done = Unit {0}
IsDoneOrNoMemory NoMemory = Unit {0}
IsDoneOrNoMemory other = ⊥

-- Nothing was taken, shown or written: a read of the disk gives what it gave, and each image is one of the entry.
pub record IsQuiet {O : Type 0} (M : Members O) (old new : O) : Type 0 where
  pub left : M.left new ≡ M.left old
  pub shown : M.shown new ≡ M.shown old
  pub reads : M.reads new ≡ M.reads old
  pub crash : Through M.disk_clock M.images Same old new

-- the parts hold no rows: they are no store, or damaged
abbrev pub HoldsNone : Parts → Type 0
HoldsNone parts = (size : Capacity) (rows : Rows) → state_of parts ≡ Holds size rows → ⊥

-- they hold rows
abbrev pub HoldsSome : Parts → Type 0
HoldsSome parts = (size : Capacity) × (rows : Rows) × (state_of parts ≡ Holds size rows)

-- How a run that opens a store tells what it finds: that there is none, or the first damage, exactly where the parts
-- have this state, unless the disk or memory fails.
abbrev pub TellsStore : Parts → Status → Type 0
TellsStore parts NoStore = state_of parts ≡ NoState
TellsStore parts (Damaged part place) = state_of parts ≡ DamagedAt part place
TellsStore parts DiskFault = Unit {0}
TellsStore parts NoMemory = Unit {0}
TellsStore parts Usage = ⊥
TellsStore parts AlreadyStore = ⊥
TellsStore parts other = HoldsSome parts

-- How a run that makes a store tells that there is one.
abbrev pub TellsNew : Parts → Status → Type 0
TellsNew parts Done = has_store parts ≡ false
TellsNew parts AlreadyStore = has_store parts ≡ true
TellsNew parts DiskFault = Unit {0}
TellsNew parts NoMemory = Unit {0}
TellsNew parts other = ⊥

-- `init` makes a store, and every other mode opens one.
abbrev pub Tells : Mode → Parts → Status → Type 0
Tells (Init size) parts status = TellsNew parts status
Tells other parts status = TellsStore parts status

-- the parts that a mode can do nothing with
abbrev pub IsIdleOver : Mode → Parts → Type 0
IsIdleOver (Init size) parts = has_store parts ≡ true
IsIdleOver other parts = HoldsNone parts

-- and those with which it can do all, if no device fails
abbrev pub IsReadyOver : Mode → Parts → Type 0
IsReadyOver (Init size) parts = has_store parts ≡ false
IsReadyOver other parts = HoldsSome parts

-- a mode that takes nothing from the source
abbrev pub ReadsNothing : Mode → Type 0
ReadsNothing (Replay group) = ⊥
ReadsNothing other = Unit {0}

-- a mode that writes nothing to the disk
abbrev pub WritesNothing : Mode → Type 0
WritesNothing Show = Unit {0}
WritesNothing (Outbox since) = Unit {0}
WritesNothing other = ⊥

-- ---- the answers of each mode
abbrev pub FitsInit : Status → Type 0
FitsInit Done = Unit {0}
FitsInit AlreadyStore = Unit {0}
FitsInit DiskFault = Unit {0}
FitsInit NoMemory = Unit {0}
FitsInit other = ⊥

abbrev pub FitsReplay : Status → Type 0
FitsReplay Usage = ⊥
FitsReplay AlreadyStore = ⊥
FitsReplay other = Unit {0}

-- those of a mode that reads no script
abbrev pub FitsUnread : Status → Type 0
FitsUnread Done = Unit {0}
FitsUnread WriteFault = Unit {0}
FitsUnread DiskFault = Unit {0}
FitsUnread NoMemory = Unit {0}
FitsUnread NoStore = Unit {0}
FitsUnread (Damaged part place) = Unit {0}
FitsUnread other = ⊥

abbrev pub Fits : Mode → Status → Type 0
Fits (Init size) status = FitsInit status
Fits (Replay group) status = FitsReplay status
Fits other status = FitsUnread status
