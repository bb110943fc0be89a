-- What a device in memory holds, as its contracts name it, and what its calls keep.
use Rattle.std.specs.Prelude.{◌≡◌, ℕ, List, length, drop, reverse, take}
use Rattle.fsrm_outside.specs.Contents.{parts_in}
use Rattle.fsrm_outside.specs.History.{images_in}
use Rattle.fsrm_outside.specs.Parts.{Parts}
use Rattle.fsrm_outside.specs.Plan.{Plan}
use Rattle.fsrm_outside.specs.Record.{GoesOn, IsDisk, IsRead, IsWrite, text_of}
use Rattle.fsrm_outside.specs.declared.calls.Call.{Call}
use Rattle.fsrm_outside.specs.declared.memory.MemoryOutside.{MemoryOutside}

-- the calls that were made, in their order
abbrev pub calls_of : MemoryOutside → List Call
calls_of o = o.history.calls.items

-- their number is the clock
abbrev pub time_of : MemoryOutside → ℕ
time_of o = length o.history.calls.items

abbrev pub plan_of : MemoryOutside → Plan
plan_of o = record { fail = o.fail.items; stop = o.stop; calls = time_of o; piece = o.piece; lacked = o.lacked }

-- the bytes not yet taken
abbrev pub left_of : MemoryOutside → List ℕ
left_of o = drop o.place o.script.items

-- the bytes shown so far
abbrev pub shown_of : MemoryOutside → List ℕ
shown_of o = o.shown.items

-- and up to a moment
abbrev pub shown_at_of : MemoryOutside → ℕ → List ℕ
shown_at_of o m = text_of (reverse (take m (calls_of o)))

-- what a read gives of the disk
abbrev pub parts_of : MemoryOutside → Parts
parts_of o = parts_in o.history.parts

-- what a crash at a moment may leave, of the calls that came before it and after the last crash
abbrev pub images_of : MemoryOutside → ℕ → Parts → Type 0
images_of o = images_in o.history

abbrev pub read_faults_of : MemoryOutside → ℕ
read_faults_of o = o.read_faults

abbrev pub write_faults_of : MemoryOutside → ℕ
write_faults_of o = o.write_faults

abbrev pub disk_faults_of : MemoryOutside → ℕ
disk_faults_of o = o.disk_faults

-- what reads keep
pub record ByRead (a b : MemoryOutside) : Type 0 where
  pub calls : GoesOn IsRead (calls_of a) (calls_of b)
  pub start : parts_in b.history.start ≡ parts_in a.history.start
  pub begun : b.history.begun ≡ a.history.begun
  pub parts : parts_of b ≡ parts_of a
  pub shown : shown_of b ≡ shown_of a
  pub write_faults : write_faults_of b ≡ write_faults_of a
  pub disk_faults : disk_faults_of b ≡ disk_faults_of a

-- what writes keep
pub record ByWrite (a b : MemoryOutside) : Type 0 where
  pub calls : GoesOn IsWrite (calls_of a) (calls_of b)
  pub start : parts_in b.history.start ≡ parts_in a.history.start
  pub begun : b.history.begun ≡ a.history.begun
  pub parts : parts_of b ≡ parts_of a
  pub left : left_of b ≡ left_of a
  pub read_faults : read_faults_of b ≡ read_faults_of a
  pub disk_faults : disk_faults_of b ≡ disk_faults_of a

-- what calls of the disk keep
pub record ByDisk (a b : MemoryOutside) : Type 0 where
  pub calls : GoesOn IsDisk (calls_of a) (calls_of b)
  pub start : parts_in b.history.start ≡ parts_in a.history.start
  pub begun : b.history.begun ≡ a.history.begun
  pub shown : shown_of b ≡ shown_of a
  pub left : left_of b ≡ left_of a
  pub read_faults : read_faults_of b ≡ read_faults_of a
  pub write_faults : write_faults_of b ≡ write_faults_of a
