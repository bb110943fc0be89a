-- What a run has taken of its script, piece by piece.
use Rattle.std.specs.Prelude.{◌≡◌, ℕ, ◌≤◌, List, ◌++◌, length}
use Rattle.fsrm_model.specs.declared.row.Capacity.{Capacity}
use Rattle.fsrm_model.specs.values.Limits.{longest_script}
use Rattle.fsrm_outside.specs.Members.{Members}
use Rattle.fsrm_session.specs.declared.session.Session.{Session}
use Rattle.fsrm_session.specs.declared.stop.Stop.{Stop}
use Rattle.fsrm_session.specs.declared.stop.Stop.TheVariants as stops
use Rattle.fsrm_modes.specs.Bytes.{IsAtEnd, Taken}
use Rattle.fsrm_modes.specs.Reading.{Broken, Fed, Place}
use Rattle.fsrm_modes.specs.declared.status.Status.{Status}
use Rattle.fsrm_modes.specs.declared.status.Status.TheVariants.{ReadFault, WriteFault, DiskFault, TooLong, NoMemory}

-- So many bytes were taken, and lead from one place to the other.
pub record Takes {O : Type 0} (M : Members O) (K : Capacity) (from to : Place) (count : ℕ) (was now : Session) (old new : O) : Type 0 where
  pub bytes : List ℕ
  pub count_is : length bytes ≡ count
  pub taken : Taken (M.left old) (M.left new) bytes
  pub fed : Fed M K from to bytes was now old new

-- After them a read ended the run, and so many more were lost.
pub record Halts {O : Type 0} (M : Members O) (K : Capacity) (from : Place) (count lost : ℕ) (was now : Session) (old new : O) : Type 0 where
  pub to : Place
  pub bytes : List ℕ
  pub count_is : length bytes ≡ count
  pub more : List ℕ
  pub lost_are : length more ≡ lost
  pub taken : Taken (M.left old) (M.left new) (bytes ++ more)
  pub fed : Fed M K from to bytes was now old new

-- The session stopped at bytes that were taken.
pub record GivesUp {O : Type 0} (M : Members O) (K : Capacity) (stop : Stop) (from : Place) (was now : Session) (old new : O) : Type 0 where
  pub bytes : List ℕ
  pub taken : Taken (M.left old) (M.left new) bytes
  pub broken : Broken M K stop from bytes was now old new

-- After this status no more is read: of a script that is too long one byte more was taken than is read.
abbrev pub StopsReading : {O : Type 0} → Members O → Capacity → Status → Place → ℕ → Session → Session → O → O → Type 0
StopsReading M K ReadFault from count was now old new = Halts M K from count 0 was now old new
StopsReading M K TooLong from count was now old new = Halts M K from count 1 was now old new
StopsReading M K WriteFault from count was now old new = GivesUp M K stops.WriteFault from was now old new
StopsReading M K DiskFault from count was now old new = GivesUp M K stops.DiskFault from was now old new
StopsReading M K NoMemory from count was now old new = GivesUp M K stops.NoMemory from was now old new
StopsReading M K other from count was now old new = ⊥

-- the same of all pieces
pub record StopsAt {O : Type 0} (M : Members O) (K : Capacity) (status : Status) (from : Place) (was now : Session) (old new : O) : Type 0 where
  pub count : ℕ
  pub full : status ≡ TooLong → count ≡ longest_script
  pub stops : StopsReading M K status from count was now old new

-- All that was left was taken.
pub record ReadsAll {O : Type 0} (M : Members O) (K : Capacity) (from to : Place) (was now : Session) (old new : O) : Type 0 where
  pub count : ℕ
  pub short : count ≤ longest_script
  pub takes : Takes M K from to count was now old new
  pub at_end : IsAtEnd (M.left new)
