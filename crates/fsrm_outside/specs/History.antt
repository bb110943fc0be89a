-- How a history goes on.
use Rattle.std.specs.Prelude.{◌≡◌, ◌⊎◌, ℕ, ◌≤◌, List, [], ◌∷◌, ◌++◌, length, take, Option, Some, Vec, vec_capacity}
use Rattle.std.specs.declared.alloc.Global.{Global}
use Rattle.fsrm_outside.specs.Changes.{Written}
use Rattle.fsrm_outside.specs.Contents.{parts_in}
use Rattle.fsrm_outside.specs.DiskModel.{IsImage}
use Rattle.fsrm_outside.specs.Parts.{Parts}
use Rattle.fsrm_outside.specs.Crash.{synced, unsynced, AreFilled}
use Rattle.fsrm_outside.specs.Record.{now_of, since}
use Rattle.fsrm_outside.specs.declared.crash.Pick.{Pick}
use Rattle.fsrm_outside.specs.declared.crash.Pick.TheVariants.{Lost, Taken, Fill}
use Rattle.fsrm_outside.specs.declared.calls.Call.{Call}
use Rattle.fsrm_outside.specs.declared.calls.Call.TheVariants.{Write, WriteAt}
use Rattle.fsrm_outside.specs.declared.traits.Part.{Part}
use Rattle.fsrm_outside.specs.declared.history.History.{History}

-- what a crash at a moment may leave, of the calls that came before it and after the last crash
abbrev pub images_in : History → ℕ → Parts → Type 0
images_in h m image = IsImage (parts_in h.start) (since h.begun (take m h.calls.items)) image

-- the number of calls is the clock
abbrev pub clock_in : History → Option ℕ
clock_in h = Some (length h.calls.items)

-- The call was kept, and what a read gives is as it was.
pub record Noted (call : Call) (old new : History) : Type 0 where
  pub calls : new.calls.items ≡ old.calls.items ++ call ∷ []
  pub start : parts_in new.start ≡ parts_in old.start
  pub begun : new.begun ≡ old.begun
  pub parts : parts_in new.parts ≡ parts_in old.parts

-- A call was kept that shows these bytes.
abbrev pub NotedShown : List ℕ → History → History → Type 0
NotedShown bytes old new = (copy : Vec ℕ Global) × (copy.items ≡ bytes) × Noted (Write copy) old new

-- The bytes were written, and the call was kept.
pub record Wrote (part : Part) (place : ℕ) (bytes : List ℕ) (old new : History) : Type 0 where
  pub calls : (copy : Vec ℕ Global) × (copy.items ≡ bytes) × (new.calls.items ≡ old.calls.items ++ WriteAt part place copy ∷ [])
  pub start : parts_in new.start ≡ parts_in old.start
  pub begun : new.begun ≡ old.begun
  pub parts : parts_in new.parts ≡ Written part place bytes (parts_in old.parts)

-- Nothing was kept.
pub record Stopped (old new : History) : Type 0 where
  pub calls : new.calls.items ≡ old.calls.items
  pub start : parts_in new.start ≡ parts_in old.start
  pub begun : new.begun ≡ old.begun
  pub parts : parts_in new.parts ≡ parts_in old.parts
  pub room : vec_capacity old.calls ≤ vec_capacity new.calls

-- A call wasn't kept: the record was full, and there was no memory for one place more.
pub record Missed (old new : History) : Type 0 where
  pub full : vec_capacity old.calls ≤ length old.calls.items
  pub rest : Stopped old new

-- A call was kept, unless there was no place for it.
abbrev pub NotedOrMissed : Call → History → History → Type 0
NotedOrMissed call old new = Noted call old new ⊎ Missed old new

-- so one that failed to show anything
abbrev pub NotedUnshown : History → History → Type 0
NotedUnshown old new = NotedShown [] old new ⊎ Missed old new

-- A crash left the image of this pick, which is stable, and the calls stay.
pub record Crashed (pick : Pick) (old new : History) : Type 0 where
  pub calls : new.calls.items ≡ old.calls.items
  pub image : IsImage (parts_in old.start) (since old.begun old.calls.items) (parts_in new.parts)
  pub lost : pick ≡ Lost → parts_in new.parts ≡ now_of (parts_in old.start) (synced (since old.begun old.calls.items))
  pub taken : pick ≡ Taken → parts_in new.parts ≡ parts_in old.parts
  pub filled : (byte : ℕ) → pick ≡ Fill byte → AreFilled byte (unsynced (since old.begun old.calls.items)) (parts_in old.parts) (parts_in new.parts)
  pub start : parts_in new.start ≡ parts_in new.parts
  pub begun : new.begun ≡ length new.calls.items
