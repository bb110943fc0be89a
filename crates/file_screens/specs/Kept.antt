-- How the audit log is held.
use Rattle.std.specs.Prelude.{◌≡◌, ◌≤◌, length}
use Rattle.circular_buffer.specs.Buffer.{Buffer}
use Rattle.fsrm_model.specs.declared.row.AuditRow.{AuditRow}
use Rattle.fsrm_model.specs.values.Limits.{most_entries}

-- there is room for as many entries as the log keeps
pub record IsKept (log : Buffer AuditRow) : Type 0 where
  pub capacity : log.capacity ≡ most_entries
  pub few : length log.items ≤ most_entries
