-- Which looks at nodes a run takes.
use Rattle.std.specs.Prelude.{◌≡◌, ℕ, ◌+◌, ◌*◌, ◌/◌, ◌≤◌, List, [], ◌∷◌, ◌++◌, take, Result, Ok, Err, if◌then◌else◌}
use Rattle.fsrm_model.specs.declared.row.Capacity.{Capacity}
use Rattle.fsrm_model.specs.declared.row.Rows.{Rows}
use Rattle.fsrm_model.specs.lines.Script.{is_end, lines, script_cost}
use Rattle.fsrm_outside.specs.Members.{Members}
use Rattle.fsrm_outside.specs.Parts.{Parts}
use Rattle.fsrm_outside.specs.declared.traits.Part.{Part}
use Rattle.fsrm_journal.specs.Opened.{judged_parts}
use Rattle.fsrm_store.specs.Amortized.{bytes_since}
use Rattle.fsrm_store.specs.Keeps.{HasTail}
use Rattle.fsrm_store.specs.Recovery.{is_first_version, FewLooks}
use Rattle.fsrm_session.specs.Spending.{Spends}
use Rattle.fsrm_session.specs.Turns.{bytes_of, line_turns, looks_of, script_turns, IsWithin, Turn}
use Rattle.fsrm_session.specs.declared.session.Session.{Session}
use Rattle.fsrm_modes.specs.Reading.{IsHeld, Place}
use Rattle.fsrm_modes.specs.declared.status.Status.{Status}
use Rattle.fsrm_modes.specs.declared.status.Status.TheVariants.{ReadFault, TooLong, NoMemory}

-- ---- the whole lines of a stream
abbrev pub onto_ended : ℕ → List (List ℕ) → List (List ℕ)
onto_ended b [] = []
onto_ended b (line ∷ lines) = (b ∷ line) ∷ lines

-- what stands before each LF
abbrev pub ended_lines : List ℕ → List (List ℕ)
ended_lines [] = []
ended_lines (b ∷ bs) = if is_end b then [] ∷ ended_lines bs else onto_ended b (ended_lines bs)

-- ---- what lines take
-- The bytes of records for which no image was written yet, where a read ended, or memory. If a device failed that is at
-- least nothing.
abbrev pub left_after : {T : Type 0} → Result T Status → Session → ℕ
left_after (Ok done) session = bytes_since session.store.journal
left_after (Err ReadFault) session = bytes_since session.store.journal
left_after (Err TooLong) session = bytes_since session.store.journal
left_after (Err NoMemory) session = bytes_since session.store.journal
left_after (Err other) session = 0

-- Of a line that may begin with what is held, and these bytes, no more than the whole lines are taken.
pub record SpendsLines {O : Type 0} (M : Members O) (K : Capacity) (from : Place) (bytes : List ℕ) (was : Session) (old : O) (looks steps left : ℕ) : Type 0 where
  pub spends : (line : List ℕ) → IsHeld line from.held → Spends M (line_turns K from.line (ended_lines (line ++ bytes))) was old looks steps left

-- So is the last line, which has no LF.
pub record SpendsLast {O : Type 0} (M : Members O) (K : Capacity) (from : Place) (was : Session) (old : O) (looks steps left : ℕ) : Type 0 where
  pub spends : (line : List ℕ) → IsHeld line from.held → Spends M (line_turns K from.line (lines line)) was old looks steps left

-- what a pass takes of a script: a piece, and at most all if it stops
abbrev pub piece_of : Result ℕ Status → List ℕ → List ℕ
piece_of (Ok count) script = take count script
piece_of (Err status) script = script

-- ---- what a run takes
-- A script over the rows of these parts: the looks for opening them, those of its lines, and, for each 1 MiB of
-- records, of those that are there and those that it adds, 2 for each node of the largest volume on the way. So many
-- takes also the new image of a store of the first version.
pub record FewForScript (parts : Parts) (K : Capacity) (R : Rows) (script : List ℕ) (looks steps : ℕ) : Type 0 where
  pub opened : ℕ
  pub opening : FewLooks parts looks opened
  pub few : (ruling : Part) (tail most : ℕ) → judged_parts parts ≡ Ok ruling → HasTail tail parts → IsWithin most R (script_turns K script)
      → steps ≤ opened + (if is_first_version ruling parts then 2 * most else 0) + script_cost K R script + (tail + bytes_of R (script_turns K script)) / 1048576 * (2 * most)

-- What is shown of the rows of these parts: the looks for opening them, and those that the text takes.
pub record FewToShow (parts : Parts) (cost looks steps : ℕ) : Type 0 where
  pub opened : ℕ
  pub opening : FewLooks parts looks opened
  pub few : steps ≤ opened + cost

-- Turns over the rows of these parts, and so many looks beside them: the looks for opening the rows, those, the ones of
-- the turns, and, for each 1 MiB of records, of those that are there and those that the turns add, 2 for each node of
-- the largest volume on the way. So many takes also the new image of a store of the first version.
pub record FewForTurns (parts : Parts) (R : Rows) (turns : List Turn) (beside looks steps : ℕ) : Type 0 where
  pub opened : ℕ
  pub opening : FewLooks parts looks opened
  pub few : (ruling : Part) (tail most : ℕ) → judged_parts parts ≡ Ok ruling → HasTail tail parts → IsWithin most R turns
      → steps ≤ opened + (if is_first_version ruling parts then 2 * most else 0) + beside + looks_of R turns + (tail + bytes_of R turns) / 1048576 * (2 * most)
