-- How marks are held.
use Rattle.std.specs.Prelude.{◌≡◌, ℕ, ◌≤◌, true, length}
use Rattle.circular_buffer.specs.Buffer.{Buffer}
use Rattle.fsrm_base.specs.Numbers.{is_set}
use Rattle.fsrm_model.specs.declared.row.ActRow.{ActRow}
use Rattle.fsrm_model.specs.values.Limits.{most_actions, most_entries}
use Rattle.number_set.specs.Numbers.{Numbers}
use Rattle.thresholds.specs.Marked.{most_marks}

-- there is room for every number, for as many entries as the log keeps, and for the places of one screen's actions
pub record IsKept (numbers : Numbers) (log : Buffer ActRow) (places : Buffer ℕ) : Type 0 where
  pub bound : numbers.bound ≡ most_marks
  pub ascending : is_set numbers.members ≡ true
  pub capacity : log.capacity ≡ most_entries
  pub few : length log.items ≤ most_entries
  pub room : places.capacity ≡ most_actions
  pub short : length places.items ≤ most_actions
