-- What a run of each mode promises.
use Rattle.std.specs.Prelude.{◌≡◌, ℕ, ◌+◌, ◌≤◌, ◌<◌, List, [], ◌++◌, false, length, Some}
use Rattle.std.specs.List.{list_any}
use Rattle.fsrm_model.specs.declared.row.Capacity.{Capacity}
use Rattle.fsrm_model.specs.declared.row.Rows.{Rows}
use Rattle.fsrm_model.specs.lines.Script.{is_end, lines, spelled_lines, text, text_from, fold_from, AreLines}
use Rattle.fsrm_model.specs.store.Lasting.{lasting}
use Rattle.fsrm_model.specs.values.Limits.{longest_script}
use Rattle.fsrm_outside.specs.Causes.{Rose}
use Rattle.fsrm_outside.specs.Members.{Members}
use Rattle.fsrm_outside.specs.Parts.{Parts}
use Rattle.fsrm_store.specs.States.{state_of}
use Rattle.fsrm_store.specs.States.State.{Holds}
use Rattle.fsrm_session.specs.Underway.{ShowsSome}
use Rattle.fsrm_modes.specs.Answers.{IsTooLong, OnReadStop}
use Rattle.fsrm_modes.specs.declared.status.Status.{Status}
use Rattle.fsrm_modes.specs.declared.status.Status.TheVariants.{Done, ReadFault, TooLong}

-- What is told as a run begins: what a read of the disk gives, the rows that it keeps, and what is shown.
pub record Begins {O : Type 0} (M : Members O) (K : Capacity) (R : Rows) (before : List ℕ) (old : O) : Type 0 where
  pub parts : Parts
  pub reads : M.reads old ≡ Some parts
  pub holds : state_of parts ≡ Holds K R
  pub shown : M.shown old ≡ Some before

-- A read ended the run. Of what was taken the lines that an LF ended were done, and their whole text is shown, unless a
-- write or the disk failed as well. A failed read took nothing more.
pub record ShowsEnded {O : Type 0} (M : Members O) (K : Capacity) (R : Rows) (status : Status) (script before : List ℕ) (old new : O) : Type 0 where
  pub ended : List (List ℕ)
  pub next : List ℕ
  pub rest : List ℕ
  pub each : AreLines ended
  pub no_end : list_any is_end next ≡ false
  pub script_is : script ≡ (spelled_lines ended ++ next) ++ rest
  pub left_is : status ≡ ReadFault → M.left new ≡ Some rest
  pub full : status ≡ TooLong → length (spelled_lines ended ++ next) ≡ longest_script
  pub shows : (Rose (M.write_faults old) (M.write_faults new) → ⊥) → (Rose (M.disk_faults old) (M.disk_faults new) → ⊥) → M.shown new ≡ Some (before ++ text_from K R 1 ended)

-- A run of `replay` over these rows: what is shown begins the text of the script, and at its end is all of it; then the
-- disk keeps the rows after all lines.
pub record Replays {O : Type 0} (M : Members O) (K : Capacity) (R : Rows) (status : Status) (script before : List ℕ) (old new : O) : Type 0 where
  pub front : ShowsSome M (text K R script) before new
  pub whole : status ≡ Done → M.shown new ≡ Some (before ++ text K R script)
  pub at_end : status ≡ Done → M.left new ≡ Some []
  pub short : status ≡ Done → length script ≤ longest_script
  pub kept : status ≡ Done → (parts : Parts) × (M.reads new ≡ Some parts) × (state_of parts ≡ Holds K (lasting (fold_from K R 1 (lines script))))
  pub too_long : status ≡ TooLong → IsTooLong script (M.left new)
  pub ended : OnReadStop status (ShowsEnded M K R status script before old new)

-- A run that shows what a store holds writes a text, or a front of it.
pub record Shows {O : Type 0} (M : Members O) (text : List ℕ) (status : Status) (before : List ℕ) (new : O) : Type 0 where
  pub front : ShowsSome M text before new
  pub whole : status ≡ Done → M.shown new ≡ Some (before ++ text)
