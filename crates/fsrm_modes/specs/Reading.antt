-- How far a run has come in its script, and what was done for its lines.
use Rattle.std.specs.Prelude.{◌≡◌, ℕ, ◌+◌, ◌≤◌, ◌<◌, List, [], ◌++◌, length, take, drop, false, Option, Some, Result, Ok, Err}
use Rattle.std.specs.List.{list_any}
use Rattle.fsrm_model.specs.declared.row.Capacity.{Capacity}
use Rattle.fsrm_model.specs.lines.Script.{is_end, spelled_lines, AreLines, lines}
use Rattle.fsrm_model.specs.values.Limits.{longest_line, longest_script}
use Rattle.fsrm_outside.specs.Members.{Members}
use Rattle.fsrm_session.specs.Turns.{line_turns, script_turns}
use Rattle.fsrm_session.specs.Underway.{Goes, Stops}
use Rattle.fsrm_session.specs.declared.session.Session.{Session}
use Rattle.fsrm_session.specs.declared.stop.Stop.{Stop}
use Rattle.fsrm_session.specs.declared.stop.Stop.TheVariants as stops
use Rattle.fsrm_modes.specs.declared.status.Status.{Status}
use Rattle.fsrm_modes.specs.declared.status.Status.TheVariants.{ReadFault, WriteFault, DiskFault, TooLong, NoMemory}

-- Between two pieces: the number of the line that is being read, and what is held of it.
pub record Place : Type 0 where
  pub line : ℕ
  pub held : List ℕ

-- before the first byte
abbrev pub start : Place
start = record { line = 1; held = [] }

-- What is held of the beginning of a line: all of one that may be read, and of a longer one two bytes more than that,
-- of which one may be a CR.
pub record IsHeld (line held : List ℕ) : Type 0 where
  pub kept : held ≡ take (longest_line + 2) line
  pub one_line : list_any is_end line ≡ false

-- A stream is these whole lines and the beginning of the next one, and leads from one place to the other. The lines are
-- taken.
pub record Leads {O : Type 0} (M : Members O) (K : Capacity) (from to : Place) (stream : List ℕ) (was now : Session) (old new : O) : Type 0 where
  pub ended : List (List ℕ)
  pub next : List ℕ
  pub each : AreLines ended
  pub held : IsHeld next to.held
  pub stream_is : stream ≡ spelled_lines ended ++ next
  pub line_is : to.line ≡ from.line + length ended
  pub goes : Goes M (line_turns K from.line ended) was now old new

-- So do these bytes, for each line that may begin with what is held.
pub record Fed {O : Type 0} (M : Members O) (K : Capacity) (from to : Place) (bytes : List ℕ) (was now : Session) (old new : O) : Type 0 where
  pub fed : (line : List ℕ) → IsHeld line from.held → Leads M K from to (line ++ bytes) was now old new

-- The run stopped as it took whole lines that the stream begins with.
pub record BreaksOff {O : Type 0} (M : Members O) (K : Capacity) (stop : Stop) (from : Place) (stream : List ℕ) (was now : Session) (old new : O) : Type 0 where
  pub ended : List (List ℕ)
  pub rest : List ℕ
  pub each : AreLines ended
  pub stream_is : stream ≡ spelled_lines ended ++ rest
  pub stops : Stops M stop (line_turns K from.line ended) was now old new

-- The same, for each line that may begin with what is held.
pub record Broken {O : Type 0} (M : Members O) (K : Capacity) (stop : Stop) (from : Place) (bytes : List ℕ) (was now : Session) (old new : O) : Type 0 where
  pub broken : (line : List ℕ) → IsHeld line from.held → BreaksOff M K stop from (line ++ bytes) was now old new

-- The last line, which has no LF, is taken, if there is one.
pub record Ends {O : Type 0} (M : Members O) (K : Capacity) (from : Place) (was now : Session) (old new : O) : Type 0 where
  pub ends : (line : List ℕ) → IsHeld line from.held → Goes M (line_turns K from.line (lines line)) was now old new

pub record EndBroken {O : Type 0} (M : Members O) (K : Capacity) (stop : Stop) (from : Place) (was now : Session) (old new : O) : Type 0 where
  pub ends : (line : List ℕ) → IsHeld line from.held → Stops M stop (line_turns K from.line (lines line)) was now old new

-- ---- a whole script
-- It was read to its end, and all its lines were taken.
pub record IsRead {O : Type 0} (M : Members O) (K : Capacity) (script : List ℕ) (was now : Session) (old new : O) : Type 0 where
  pub at_end : M.left new ≡ Some []
  pub short : length script ≤ longest_script
  pub goes : Goes M (script_turns K script) was now old new

-- A read ended it. The lines were taken that an LF ended in what was read, after which this is left.
pub record IsCut {O : Type 0} (M : Members O) (K : Capacity) (script left : List ℕ) (was now : Session) (old new : O) : Type 0 where
  pub ended : List (List ℕ)
  pub next : List ℕ
  pub rest : List ℕ
  pub each : AreLines ended
  pub no_end : list_any is_end next ≡ false
  pub script_is : script ≡ (spelled_lines ended ++ next) ++ rest
  pub left_is : M.left new ≡ Some left
  pub goes : Goes M (line_turns K 1 ended) was now old new

-- A failed read took nothing.
pub record IsFailed {O : Type 0} (M : Members O) (K : Capacity) (script : List ℕ) (was now : Session) (old new : O) : Type 0 where
  pub left : List ℕ
  pub cut : IsCut M K script left was now old new
  pub none_lost : cut.rest ≡ left

-- Of a script that is too long as much was read as a script may have, and one byte more.
pub record IsTooMuch {O : Type 0} (M : Members O) (K : Capacity) (script : List ℕ) (was now : Session) (old new : O) : Type 0 where
  pub cut : IsCut M K script (drop (longest_script + 1) script) was now old new
  pub longer : longest_script < length script
  pub rest_is : cut.rest ≡ drop longest_script script

-- how the reading of a script ends by a status
abbrev pub EndsBy : {O : Type 0} → Members O → Capacity → Status → List ℕ → Session → Session → O → O → Type 0
EndsBy M K ReadFault script was now old new = IsFailed M K script was now old new
EndsBy M K TooLong script was now old new = IsTooMuch M K script was now old new
EndsBy M K WriteFault script was now old new = Stops M stops.WriteFault (script_turns K script) was now old new
EndsBy M K DiskFault script was now old new = Stops M stops.DiskFault (script_turns K script) was now old new
EndsBy M K NoMemory script was now old new = Stops M stops.NoMemory (script_turns K script) was now old new
EndsBy M K other script was now old new = ⊥

abbrev pub ReadTo : {O T : Type 0} → Members O → Capacity → Result T Status → List ℕ → Session → Session → O → O → Type 0
ReadTo M K (Ok x) script was now old new = IsRead M K script was now old new
ReadTo M K (Err status) script was now old new = EndsBy M K status script was now old new
