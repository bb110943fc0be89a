-- Which counts of failed calls rose, by how a call of a session ended.
use Rattle.std.specs.Prelude.{◌≡◌, ℕ, ◌≤◌, Result, Ok, Err}
use Rattle.fsrm_outside.specs.Causes.{Rose}
use Rattle.fsrm_session.specs.declared.stop.Stop.{Stop}
use Rattle.fsrm_session.specs.declared.stop.Stop.TheVariants.{WriteFault, DiskFault, NoMemory}

-- it rose, and didn't fall
pub record Failing (before now : ℕ) : Type 0 where
  pub later : before ≤ now
  pub rose : Rose before now

-- A failed write is told as WriteFault, a failed call of the disk as DiskFault; else none failed.
abbrev pub StopCounts : Stop → ℕ → ℕ → ℕ → ℕ → Type 0
StopCounts WriteFault w v d e = Failing w v × (e ≡ d)
StopCounts DiskFault w v d e = (v ≡ w) × Failing d e
StopCounts NoMemory w v d e = (v ≡ w) × (e ≡ d)

-- the counts of writes, and then those of calls of the disk
abbrev pub Counts : {T : Type 0} → Result T Stop → ℕ → ℕ → ℕ → ℕ → Type 0
Counts (Ok x) w v d e = (v ≡ w) × (e ≡ d)
Counts (Err stop) w v d e = StopCounts stop w v d e
