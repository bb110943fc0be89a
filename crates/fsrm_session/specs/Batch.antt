-- What writes make of a batch.
use Rattle.std.specs.Prelude.{◌≡◌, ℕ, ◌≤◌, List, length, Option}
use Rattle.fsrm_session.specs.declared.batch.Batch.{Batch}
use Rattle.fsrm_session.specs.Grows.{Grows}

-- so many bytes wait at most
abbrev pub most_waiting : ℕ
most_waiting = 65536

-- the batch is over the same device, to which it wrote; its replies wait where they did, and not too many of them
pub record ByBatch {S : Type 0} (shown : S → Option (List ℕ)) (by : S → S → Type 0) (old new : Batch S) : Type 0 where
  pub device_by : by old.device.now new.device.now
  pub grows : Grows (shown old.device.now) (shown new.device.now)
  pub few : length old.waiting.now.items ≤ most_waiting → length new.waiting.now.items ≤ most_waiting
  pub same_device : new.device.ghost_name ≡ old.device.ghost_name
  pub same_text : new.waiting.ghost_name ≡ old.waiting.ghost_name
