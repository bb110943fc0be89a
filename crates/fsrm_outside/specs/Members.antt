-- What an object of the outside tells and keeps, in one record: all that a function which reads, writes and syncs passes
-- on of its object.
use Rattle.std.specs.Prelude.{ℕ, Option, List}
use Rattle.fsrm_outside.specs.Parts.{Parts}

pub record Members (O : Type 0) : Type 1 where
  pub left : O → Option (List ℕ)
  pub read_faults : O → ℕ
  pub by_read : O → O → Type 0
  pub shown : O → Option (List ℕ)
  pub sink_clock : O → Option ℕ
  pub shown_at : O → ℕ → List ℕ
  pub write_faults : O → ℕ
  pub by_write : O → O → Type 0
  pub reads : O → Option Parts
  pub disk_clock : O → Option ℕ
  pub images : O → ℕ → Parts → Type 0
  pub disk_faults : O → ℕ
  pub by_disk : O → O → Type 0
