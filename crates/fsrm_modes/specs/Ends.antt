-- How the turns of a script end, and what a run comes to then.
use Rattle.std.specs.Prelude.{◌≡◌, ℕ, ◌≤◌, Some, Result, Ok, Err, IfErr, OnOk, List, [], ◌++◌, length, false}
use Rattle.std.specs.List.{list_any}
use Rattle.fsrm_model.specs.declared.row.Capacity.{Capacity}
use Rattle.fsrm_model.specs.declared.row.Rows.{Rows}
use Rattle.fsrm_model.specs.lines.Script.{is_end, spelled_lines, AreLines}
use Rattle.fsrm_model.specs.store.Lasting.{lasting}
use Rattle.fsrm_model.specs.values.Limits.{longest_script}
use Rattle.fsrm_outside.specs.Members.{Members}
use Rattle.fsrm_outside.specs.Parts.{Parts}
use Rattle.fsrm_store.specs.States.{state_of}
use Rattle.fsrm_store.specs.States.State.{Holds}
use Rattle.fsrm_session.specs.Turns.{Turn, line_turns, rows_after, script_turns, text_of}
use Rattle.fsrm_session.specs.Underway.{Left, Safe, ShowsSome, Underway}
use Rattle.fsrm_session.specs.declared.session.Session.{Session}
use Rattle.fsrm_modes.specs.Answers.{IsTooLong, OnReadStop}
use Rattle.fsrm_modes.specs.declared.status.Status.{Status}
use Rattle.fsrm_modes.specs.declared.status.Status.TheVariants.{Done, ReadFault, TooLong, NoMemory}

-- how the turns ended
abbrev pub EndedBy : {O : Type 0} → Members O → Status → Capacity → Rows → List Turn → List ℕ → Session → O → Type 0
EndedBy M ReadFault K R turns before session now = Left M K R turns before session now
EndedBy M TooLong K R turns before session now = Left M K R turns before session now
EndedBy M NoMemory K R turns before session now = Left M K R turns before session now
EndedBy M other K R turns before session now = ShowsSome M (text_of R turns) before now

abbrev pub Ended : {O T : Type 0} → Members O → Result T Status → Capacity → Rows → List Turn → List ℕ → Session → O → Type 0
Ended M (Ok x) K R turns before session now = Underway M K R turns (text_of R turns) before session now
Ended M (Err status) K R turns before session now = EndedBy M status K R turns before session now

-- The turns came to this end, and at each moment since the start each image covers what is shown.
pub record Took {O T : Type 0} (M : Members O) (ended : Result T Status) (K : Capacity) (R : Rows) (turns : List Turn) (before : List ℕ) (session : Session) (start now : O) : Type 0 where
  pub ended_is : Ended M ended K R turns before session now
  pub so_far : Safe M K R turns before start now

-- What a run of the turns comes to: a front of their text is shown, and at Done all, and the rows after them are kept.
pub record Outcome {O : Type 0} (M : Members O) (status : Status) (K : Capacity) (R : Rows) (turns : List Turn) (before : List ℕ) (start new : O) : Type 0 where
  pub front : ShowsSome M (text_of R turns) before new
  pub whole : status ≡ Done → M.shown new ≡ Some (before ++ text_of R turns)
  pub kept : status ≡ Done → (parts : Parts) × (M.reads new ≡ Some parts) × (state_of parts ≡ Holds K (lasting (rows_after R turns)))
  pub safe : Safe M K R turns before start new

-- A read ended the script. The lines that an LF ended are taken.
pub record CutAt {O : Type 0} (M : Members O) (K : Capacity) (R : Rows) (status : Status) (script before : List ℕ) (session : Session) (now : O) : Type 0 where
  pub ended : List (List ℕ)
  pub next : List ℕ
  pub rest : List ℕ
  pub each : AreLines ended
  pub no_end : list_any is_end next ≡ false
  pub script_is : script ≡ (spelled_lines ended ++ next) ++ rest
  pub left_is : status ≡ ReadFault → M.left now ≡ Some rest
  pub full : status ≡ TooLong → length (spelled_lines ended ++ next) ≡ longest_script
  pub here : Underway M K R (line_turns K 1 ended) (text_of R (line_turns K 1 ended)) before session now

-- A script's lines were taken, up to this end.
pub record TakesScript {O T : Type 0} (M : Members O) (K : Capacity) (R : Rows) (ended : Result T Status) (script before : List ℕ) (session : Session) (start now : O) : Type 0 where
  pub took : Took M ended K R (script_turns K script) before session start now
  pub at_end : OnOk ended (M.left now ≡ Some [])
  pub short : OnOk ended (length script ≤ longest_script)
  pub too_long : IfErr ended (λ status. status ≡ TooLong → IsTooLong script (M.left now))
  pub cut : IfErr ended (λ status. OnReadStop status (CutAt M K R status script before session now))
