-- A run that takes turns of its own, and no script.
use Rattle.std.specs.Prelude.{◌≡◌, ℕ, List, ◌++◌, Some, Result, Ok, Err}
use Rattle.fsrm_model.specs.declared.row.Capacity.{Capacity}
use Rattle.fsrm_model.specs.declared.row.Rows.{Rows}
use Rattle.fsrm_model.specs.store.Lasting.{lasting}
use Rattle.fsrm_outside.specs.Members.{Members}
use Rattle.fsrm_outside.specs.Parts.{Parts}
use Rattle.fsrm_store.specs.States.{state_of}
use Rattle.fsrm_store.specs.States.State.{Holds}
use Rattle.fsrm_session.specs.Turns.{Turn, rows_after, text_of}
use Rattle.fsrm_session.specs.Underway.{ShowsSome}
use Rattle.fsrm_session.specs.declared.stop.Stop.{Stop}
use Rattle.fsrm_modes.specs.Statuses.{of_stop}
use Rattle.fsrm_modes.specs.declared.status.Status.{Status}
use Rattle.fsrm_modes.specs.declared.status.Status.TheVariants.{Done}

-- It shows the text of its turns, or a front of it; at Done it shows all, and the disk keeps the rows after all turns.
pub record TakesTurns {O : Type 0} (M : Members O) (K : Capacity) (R : Rows) (status : Status) (turns : List Turn) (before : List ℕ) (new : O) : Type 0 where
  pub front : ShowsSome M (text_of R turns) before new
  pub whole : status ≡ Done → M.shown new ≡ Some (before ++ text_of R turns)
  pub kept : status ≡ Done → (parts : Parts) × (M.reads new ≡ Some parts) × (state_of parts ≡ Holds K (lasting (rows_after R turns)))

-- ---- how it comes to its end
-- the status of a run that took its turns, or stopped
abbrev pub ended_by : {T : Type 0} → Result T Stop → Result T Status
ended_by (Ok x) = Ok x
ended_by (Err stop) = Err (of_stop stop)
