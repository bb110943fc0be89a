-- How the process ends after a run.
use Rattle.std.specs.Prelude.{ℕ, List, [], codes}
use Rattle.fsrm_outside.specs.declared.traits.Part.{Part}
use Rattle.fsrm_outside.specs.declared.traits.Part.TheVariants.{Zero, One}
use Rattle.fsrm_modes.specs.declared.status.Status.{Status}
use Rattle.fsrm_modes.specs.declared.status.Status.TheVariants.{Done, Usage, ReadFault, WriteFault, DiskFault, TooLong, Damaged, NoMemory, NoStore, AlreadyStore}

-- its exit status
abbrev pub exit_status : Status → ℕ
exit_status Done = 0
exit_status Usage = 2
exit_status ReadFault = 3
exit_status WriteFault = 4
exit_status DiskFault = 5
exit_status TooLong = 6
exit_status (Damaged part place) = 7
exit_status NoMemory = 8
exit_status NoStore = 9
exit_status AlreadyStore = 10

-- the line on standard error. Of a damaged store it goes on with the part and the place
abbrev pub exit_message : Status → List ℕ
exit_message Done = []
exit_message Usage = codes "fsrm: words not understood"
exit_message ReadFault = codes "fsrm: input failed"
exit_message WriteFault = codes "fsrm: output failed"
exit_message DiskFault = codes "fsrm: store device failed"
exit_message TooLong = codes "fsrm: script too long"
exit_message (Damaged part place) = codes "fsrm: store damaged"
exit_message NoMemory = codes "fsrm: out of memory"
exit_message NoStore = codes "fsrm: no store here"
exit_message AlreadyStore = codes "fsrm: a store is here already"

-- the number by which a part is named: that of its file
abbrev pub part_number : Part → ℕ
part_number Zero = 0
part_number One = 1
