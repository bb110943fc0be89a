-- The statuses of a run, and which counts of failed calls rose by them.
use Rattle.std.specs.Prelude.{◌≡◌, ℕ, ◌≤◌, Result, Ok, Err}
use Rattle.fsrm_outside.specs.Causes.{Rose}
use Rattle.fsrm_session.specs.Counts.{Failing}
use Rattle.fsrm_session.specs.declared.stop.Stop.{Stop}
use Rattle.fsrm_session.specs.declared.stop.Stop.TheVariants as stops
use Rattle.fsrm_store.specs.declared.fault.StoreFault.{StoreFault}
use Rattle.fsrm_store.specs.declared.fault.StoreFault.TheVariants as faults
use Rattle.fsrm_modes.specs.declared.status.Status.{Status}
use Rattle.fsrm_modes.specs.declared.status.Status.TheVariants.{Done, ReadFault, WriteFault, DiskFault, TooLong, Damaged, NoMemory, NoStore, AlreadyStore}

-- the status of a session that stopped
abbrev pub of_stop : Stop → Status
of_stop stops.WriteFault = WriteFault
of_stop stops.DiskFault = DiskFault
of_stop stops.NoMemory = NoMemory

-- the status of a store that can't be opened or made
abbrev pub of_store : StoreFault → Status
of_store faults.NoStore = NoStore
of_store faults.AlreadyStore = AlreadyStore
of_store (faults.Damaged part place) = Damaged part place
of_store faults.DiskFault = DiskFault
of_store faults.NoMemory = NoMemory

-- how the reading of a script may end
abbrev pub IsReadEnd : Status → Type 0
IsReadEnd ReadFault = Unit {0}
IsReadEnd WriteFault = Unit {0}
IsReadEnd DiskFault = Unit {0}
IsReadEnd TooLong = Unit {0}
IsReadEnd NoMemory = Unit {0}
IsReadEnd other = ⊥

-- how turns may end that read no script
abbrev pub IsOwnEnd : Status → Type 0
IsOwnEnd WriteFault = Unit {0}
IsOwnEnd DiskFault = Unit {0}
IsOwnEnd NoMemory = Unit {0}
IsOwnEnd other = ⊥

-- the status of turns that ended
abbrev pub status_of : {T : Type 0} → Result T Status → Status
status_of (Ok x) = Done
status_of (Err status) = status

-- After these what is held is still made stable, and what waits is shown.
abbrev pub IsSettled : Status → Type 0
IsSettled ReadFault = Unit {0}
IsSettled TooLong = Unit {0}
IsSettled NoMemory = Unit {0}
IsSettled other = ⊥

-- ---- the counts of reads, then of writes, then of calls of the disk
-- how they stand as the taking of lines ends by a status: a failed call is told as what it is, and else none failed
abbrev pub EndCounts : Status → ℕ → ℕ → ℕ → ℕ → ℕ → ℕ → Type 0
EndCounts ReadFault r q w v d e = Failing r q × (v ≡ w) × (e ≡ d)
EndCounts WriteFault r q w v d e = (q ≡ r) × Failing w v × (e ≡ d)
EndCounts DiskFault r q w v d e = (q ≡ r) × (v ≡ w) × Failing d e
EndCounts other r q w v d e = (q ≡ r) × (v ≡ w) × (e ≡ d)

abbrev pub ReadCounts : {T : Type 0} → Result T Status → ℕ → ℕ → ℕ → ℕ → ℕ → ℕ → Type 0
ReadCounts (Ok x) r q w v d e = (q ≡ r) × (v ≡ w) × (e ≡ d)
ReadCounts (Err status) r q w v d e = EndCounts status r q w v d e

-- No read failed, unless the status says so.
abbrev pub KeepsReads : Status → ℕ → ℕ → Type 0
KeepsReads ReadFault before now = before ≤ now
KeepsReads other before now = now ≡ before

-- No write failed, unless the status says so, or what waited was still to be shown after the status had come.
abbrev pub KeepsWrites : Status → ℕ → ℕ → Type 0
KeepsWrites WriteFault before now = before ≤ now
KeepsWrites ReadFault before now = before ≤ now
KeepsWrites TooLong before now = before ≤ now
KeepsWrites NoMemory before now = before ≤ now
KeepsWrites other before now = now ≡ before

-- No call of the disk failed, unless the status says so, or what was held was still to be made stable.
abbrev pub KeepsDisk : Status → ℕ → ℕ → Type 0
KeepsDisk DiskFault before now = before ≤ now
KeepsDisk ReadFault before now = before ≤ now
KeepsDisk TooLong before now = before ≤ now
KeepsDisk NoMemory before now = before ≤ now
KeepsDisk other before now = now ≡ before

-- A fault is told only if a call failed, and no count of failed calls rose but by what the status tells.
pub record RunCounts (status : Status) (r q w v d e : ℕ) : Type 0 where
  pub read_fault : status ≡ ReadFault → Rose r q
  pub write_fault : status ≡ WriteFault → Rose w v
  pub disk_fault : status ≡ DiskFault → Rose d e
  pub reads_kept : KeepsReads status r q
  pub writes_kept : KeepsWrites status w v
  pub disk_kept : KeepsDisk status d e

-- the counts of writes and of calls of the disk, as a run that took all its lines ends by a status
abbrev pub SettleCounts : Status → ℕ → ℕ → ℕ → ℕ → Type 0
SettleCounts Done w v d e = (v ≡ w) × (e ≡ d)
SettleCounts WriteFault w v d e = Failing w v × (e ≡ d)
SettleCounts DiskFault w v d e = (v ≡ w) × Failing d e
SettleCounts other w v d e = ⊥

-- and as it is closed after a status
abbrev pub CloseCounts : Status → ℕ → ℕ → ℕ → ℕ → Type 0
CloseCounts ReadFault w v d e = (w ≤ v) × (d ≤ e)
CloseCounts TooLong w v d e = (w ≤ v) × (d ≤ e)
CloseCounts NoMemory w v d e = (w ≤ v) × (d ≤ e)
CloseCounts other w v d e = (v ≡ w) × (e ≡ d)
