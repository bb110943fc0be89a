-- What a crash leaves of a run.
use Rattle.std.specs.Prelude.{◌≡◌, ℕ, ◌≤◌, List, ◌++◌, length}
use Rattle.fsrm_model.specs.declared.row.Capacity.{Capacity}
use Rattle.fsrm_model.specs.declared.row.Rows.{Rows}
use Rattle.fsrm_model.specs.store.Lasting.{lasting}
use Rattle.fsrm_outside.specs.Parts.{Parts}
use Rattle.fsrm_store.specs.States.{state_of}
use Rattle.fsrm_store.specs.States.State.{Holds}
use Rattle.fsrm_session.specs.Turns.{Turn, rows_after, text_of}

-- Of turns that begin with these rows the first ones are kept, and whatever of the text is shown is theirs: parts hold
-- what is kept of the rows after them.
pub record Covers (K : Capacity) (R : Rows) (turns : List Turn) (shown : ℕ) (parts : Parts) : Type 0 where
  pub done : List Turn
  pub rest : List Turn
  pub are : turns ≡ done ++ rest
  pub holds : state_of parts ≡ Holds K (lasting (rows_after R done))
  pub acknowledged : shown ≤ length (text_of R done)
