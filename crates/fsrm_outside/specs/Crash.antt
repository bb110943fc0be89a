-- What the three crashes of a device in memory leave.
use Rattle.std.specs.Prelude.{◌≡◌, ◌⊎◌, ℕ, ◌<◌, true, false, List, [], ◌∷◌, ◌++◌, length, slice_index}
use Rattle.fsrm_outside.specs.DiskModel.{IsOutside}
use Rattle.fsrm_outside.specs.Parts.{Parts}
use Rattle.fsrm_outside.specs.declared.calls.Call.{Call}
use Rattle.fsrm_outside.specs.declared.calls.Call.TheVariants.{Read, Write, Len, ReadAt, WriteAt, FailedAt, Sync}
use Rattle.fsrm_outside.specs.declared.traits.Part.{Part}
use Rattle.fsrm_outside.specs.declared.traits.Part.TheVariants.{Zero, One}

-- of calls, the newest first: those up to the last sync that did its work
abbrev pub synced : List Call → List Call
synced [] = []
synced (Sync true ∷ calls) = Sync true ∷ calls
synced (Sync false ∷ calls) = synced calls
synced (Read ∷ calls) = synced calls
synced (Write bytes ∷ calls) = synced calls
synced (Len ∷ calls) = synced calls
synced (ReadAt ∷ calls) = synced calls
synced (WriteAt part place bytes ∷ calls) = synced calls
synced (FailedAt part place count ∷ calls) = synced calls

-- and those after it
abbrev pub unsynced : List Call → List Call
unsynced [] = []
unsynced (Sync true ∷ calls) = []
unsynced (Sync false ∷ calls) = Sync false ∷ unsynced calls
unsynced (Read ∷ calls) = Read ∷ unsynced calls
unsynced (Write bytes ∷ calls) = Write bytes ∷ unsynced calls
unsynced (Len ∷ calls) = Len ∷ unsynced calls
unsynced (ReadAt ∷ calls) = ReadAt ∷ unsynced calls
unsynced (WriteAt part place bytes ∷ calls) = WriteAt part place bytes ∷ unsynced calls
unsynced (FailedAt part place count ∷ calls) = FailedAt part place count ∷ unsynced calls

-- the ranges of a part that one call writes, or fails to write
abbrev pub ranges_of : Part → Call → List (ℕ × ℕ)
ranges_of Zero (WriteAt Zero place bytes) = (place, length bytes.items) ∷ []
ranges_of Zero (WriteAt One place bytes) = []
ranges_of One (WriteAt Zero place bytes) = []
ranges_of One (WriteAt One place bytes) = (place, length bytes.items) ∷ []
ranges_of Zero (FailedAt Zero place count) = (place, count) ∷ []
ranges_of Zero (FailedAt One place count) = []
ranges_of One (FailedAt Zero place count) = []
ranges_of One (FailedAt One place count) = (place, count) ∷ []
ranges_of part Read = []
ranges_of part (Write bytes) = []
ranges_of part Len = []
ranges_of part ReadAt = []
ranges_of part (Sync done) = []

-- and those that many do
abbrev pub all_ranges : Part → List Call → List (ℕ × ℕ)
all_ranges part [] = []
all_ranges part (call ∷ calls) = ranges_of part call ++ all_ranges part calls

-- Bytes within the ranges are all this byte, and the others are as they were.
pub record IsFilled (byte : ℕ) (ranges : List (ℕ × ℕ)) (old new : List ℕ) : Type 0 where
  pub as_long : length new ≡ length old
  pub same : (k : ℕ) → IsOutside ranges k → slice_index new k ≡ slice_index old k
  pub filled : (k : ℕ) → k < length old → IsOutside ranges k ⊎ (slice_index new k ≡ byte)

-- so in both parts
pub record AreFilled (byte : ℕ) (calls : List Call) (old new : Parts) : Type 0 where
  pub zero : IsFilled byte (all_ranges Zero calls) old.zero new.zero
  pub one : IsFilled byte (all_ranges One calls) old.one new.one
