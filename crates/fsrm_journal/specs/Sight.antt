-- What a journal has of the half that it reads.
use Rattle.std.specs.Prelude.{◌≡◌, ℕ, List, length}
use Rattle.fsrm_journal.specs.Ahead.{ahead, StandThere}
use Rattle.fsrm_journal.specs.declared.journal.Journal.{Journal}

-- It knows how long the half is, and what was read ahead stands where it goes on.
pub record Sees (half : List ℕ) (journal : Journal) : Type 0 where
  pub long : journal.len ≡ length half
  pub window : StandThere half journal.end (ahead journal.window)
