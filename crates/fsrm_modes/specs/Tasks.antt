-- What a run takes over a store, and what it promises then.
use Rattle.std.specs.Prelude.{◌≡◌, ℕ, ◌≤◌, List, [], length, true, Option, Some, Result, IfErr, MatchResult}
use Rattle.fsrm_model.specs.declared.row.Capacity.{Capacity}
use Rattle.fsrm_model.specs.declared.row.Rows.{Rows}
use Rattle.fsrm_model.specs.store.Valid.{is_moment}
use Rattle.fsrm_model.specs.values.Limits.{longest_script}
use Rattle.fsrm_outside.specs.Members.{Members}
use Rattle.fsrm_outside.specs.Parts.{Parts}
use Rattle.fsrm_outside.specs.Runs.{CrashSafe}
use Rattle.fsrm_session.specs.Covers.{Covers}
use Rattle.fsrm_session.specs.Turns.{script_turns, Turn}
use Rattle.fsrm_session.specs.Underway.{CanFlush, Underway}
use Rattle.fsrm_session.specs.declared.session.Session.{Session}
use Rattle.fsrm_modes.specs.Answers.{most_taken, FitsReplay, FitsUnread, HoldsNone, IsQuiet, IsTooLong, OnReadStop, TellsStore}
use Rattle.fsrm_modes.specs.Bytes.{TakenMost}
use Rattle.fsrm_modes.specs.Ends.{TakesScript, Took}
use Rattle.fsrm_modes.specs.Expiry.{expire_cost, expire_turns}
use Rattle.fsrm_modes.specs.Looks.{FewForTurns}
use Rattle.fsrm_modes.specs.OwnTurns.{TakesTurns}
use Rattle.fsrm_modes.specs.Promises.{Begins, ShowsEnded}
use Rattle.fsrm_modes.specs.Statuses.{status_of, IsOwnEnd, IsReadEnd, IsSettled, ReadCounts, RunCounts}
use Rattle.fsrm_modes.specs.Ticks.{tick_turns}
use Rattle.fsrm_modes.specs.Working.{work_turns}
use Rattle.fsrm_modes.specs.declared.status.Status.{Status}
use Rattle.fsrm_modes.specs.declared.status.Status.TheVariants.{Done, TooLong}
use Rattle.fsrm_modes.specs.declared.tasks.Task.{Task}
use Rattle.fsrm_modes.specs.declared.tasks.Task.TheVariants.{Script, Made, Moves, Jobs}

-- ---- a task
-- its numbers are in range
abbrev pub IsFit : Task → Type 0
IsFit (Script group) = (1 ≤ group) × (group ≤ 1024)
IsFit (Made seed count) = Unit {0}
IsFit (Moves ask) = is_moment ask.now.expiry.moment ≡ true
IsFit (Jobs moment) = is_moment moment ≡ true

-- so many of its records are made stable at once: nobody waits for replies that aren't shown, and a job or a move is kept
-- before the next one
abbrev pub task_group : Task → ℕ
task_group (Script group) = group
task_group (Made seed count) = 1024
task_group (Moves ask) = 1
task_group (Jobs moment) = 1

-- if it reads a script, this one is told to be left
abbrev pub IsGiven : Task → Option (List ℕ) → List ℕ → Type 0
IsGiven (Script group) left script = left ≡ Some script
IsGiven other left script = Unit {0}

-- its turns over rows
abbrev pub task_turns : Task → List ℕ → Capacity → Rows → List Turn
task_turns (Script group) script K R = script_turns K script
task_turns (Made seed count) script K R = work_turns K R seed count
task_turns (Moves ask) script K R = expire_turns K R ask.now
task_turns (Jobs moment) script K R = tick_turns K R moment

-- and the looks beside theirs
abbrev pub task_cost : Task → Capacity → Rows → ℕ
task_cost (Moves ask) K R = expire_cost K R ask.now
task_cost other K R = 0

-- how its turns may end
abbrev pub IsTaskEnd : Task → Status → Type 0
IsTaskEnd (Script group) status = IsReadEnd status
IsTaskEnd other status = IsOwnEnd status

-- what a run of it may answer
abbrev pub FitsTask : Task → Status → Type 0
FitsTask (Script group) status = FitsReplay status
FitsTask other status = FitsUnread status

-- what is taken from the source: bytes of the script, if the task reads one
abbrev pub Draws : Task → Status → Option (List ℕ) → Option (List ℕ) → Type 0
Draws (Script group) status before after = TakenMost before after (most_taken status) × ((script : List ℕ) → before ≡ Some script → status ≡ TooLong → IsTooLong script after)
Draws other status before after = after ≡ before

-- ---- how far its turns were taken
-- they came to this end
abbrev pub TakesTask : {O T : Type 0} → Members O → Task → Capacity → Rows → Result T Status → List ℕ → List ℕ → Session → O → O → Type 0
TakesTask M (Script group) K R ended script before session start now = TakesScript M K R ended script before session start now
TakesTask M other K R ended script before session start now = Took M ended K R (task_turns other script K R) before session start now

-- A session takes them from its first turn on, and what it holds may then be made stable, unless the disk or a write
-- failed.
pub record Performs {O T : Type 0} (M : Members O) (task : Task) (ended : Result T Status) (was next : Session) (old new : O) : Type 0 where
  pub takes : (K : Capacity) (R : Rows) (script before : List ℕ) → IsGiven task (M.left old) script → Underway M K R [] [] before was old → TakesTask M task K R ended script before next old new
  pub ready : MatchResult ended (λ x. CanFlush M.reads next new) (λ status. IsSettled status → CanFlush M.reads next new)
  pub only : IfErr ended (IsTaskEnd task)
  pub draws : Draws task (status_of ended) (M.left old) (M.left new)
  pub counts : ReadCounts ended (M.read_faults old) (M.read_faults new) (M.write_faults old) (M.write_faults new) (M.disk_faults old) (M.disk_faults new)

-- ---- the whole run
-- How the reading of a script ended.
pub record EndsScript {O : Type 0} (M : Members O) (K : Capacity) (R : Rows) (status : Status) (script before : List ℕ) (old new : O) : Type 0 where
  pub at_end : status ≡ Done → M.left new ≡ Some []
  pub short : status ≡ Done → length script ≤ longest_script
  pub too_long : status ≡ TooLong → IsTooLong script (M.left new)
  pub ended : OnReadStop status (ShowsEnded M K R status script before old new)

-- of a script it is told
abbrev pub EndsTask : {O : Type 0} → Members O → Task → Capacity → Rows → Status → List ℕ → List ℕ → O → O → Type 0
EndsTask M (Script group) K R status script before old new = EndsScript M K R status script before old new
EndsTask M other K R status script before old new = Unit {0}

-- What it shows is a front of the text of the task's turns, and at Done all of it, and kept; a crash leaves what is
-- kept of first turns, which hold all that is shown. So many looks are taken. The answer says what the disk holds at
-- entry, what was taken of the source, and which calls failed.
pub record ServesTask {O : Type 0} (M : Members O) (task : Task) (status : Status) (old new : O) (was now : ℕ) : Type 0 where
  pub runs : (K : Capacity) (R : Rows) (script before : List ℕ) → IsGiven task (M.left old) script → Begins M K R before old → TakesTurns M K R status (task_turns task script K R) before new
  pub ends : (K : Capacity) (R : Rows) (script before : List ℕ) → IsGiven task (M.left old) script → Begins M K R before old → EndsTask M task K R status script before old new
  pub crash : (K : Capacity) (R : Rows) (script before : List ℕ) (start : ℕ) → IsGiven task (M.left old) script → Begins M K R before old → M.disk_clock old ≡ Some start → M.sink_clock old ≡ Some start → CrashSafe M (Covers K R (task_turns task script K R)) start old new
  pub looks : (K : Capacity) (R : Rows) (script before : List ℕ) → IsGiven task (M.left old) script → (begins : Begins M K R before old) → FewForTurns begins.parts R (task_turns task script K R) (task_cost task K R) was now
  pub fits : FitsTask task status
  pub tells : (parts : Parts) → M.reads old ≡ Some parts → TellsStore parts status
  pub quiet : (parts : Parts) → M.reads old ≡ Some parts → HoldsNone parts → IsQuiet M old new
  pub draws : Draws task status (M.left old) (M.left new)
  pub counts : RunCounts status (M.read_faults old) (M.read_faults new) (M.write_faults old) (M.write_faults new) (M.disk_faults old) (M.disk_faults new)
