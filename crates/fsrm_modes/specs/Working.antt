-- A run over a script of the program's own making.
use Rattle.std.specs.Prelude.{◌≡◌, ℕ, ◌+◌, ◌*◌, ◌/◌, ◌≤◌, List, [], ◌∷◌, ◌++◌, map, Ok, Some, if◌then◌else◌}
use Rattle.fsrm_model.specs.declared.row.Capacity.{Capacity}
use Rattle.fsrm_model.specs.declared.row.Rows.{Rows}
use Rattle.fsrm_model.specs.lines.Script.{cost_from, fold_from}
use Rattle.fsrm_model.specs.store.Lasting.{lasting}
use Rattle.fsrm_outside.specs.Members.{Members}
use Rattle.fsrm_outside.specs.Parts.{Parts}
use Rattle.fsrm_outside.specs.declared.traits.Part.{Part}
use Rattle.fsrm_journal.specs.Opened.{judged_parts}
use Rattle.fsrm_store.specs.Keeps.{HasTail}
use Rattle.fsrm_store.specs.Recovery.{is_first_version, FewLooks}
use Rattle.fsrm_store.specs.States.{state_of}
use Rattle.fsrm_store.specs.States.State.{Holds}
use Rattle.made_script.specs.Lines.{made_lines}
use Rattle.made_script.specs.Summary.{summary}
use Rattle.fsrm_session.specs.Turns.{bytes_of, line_turns, said_turn, unshown, IsWithin, Turn}
use Rattle.fsrm_session.specs.Underway.{ShowsSome}
use Rattle.fsrm_modes.specs.declared.status.Status.{Status}
use Rattle.fsrm_modes.specs.declared.status.Status.TheVariants.{Done}

-- lines that are numbered from a number on, of which nothing is shown
abbrev pub unshown_lines : Capacity → ℕ → List (List ℕ) → List Turn
unshown_lines K number lines = map unshown (line_turns K number lines)

-- What a run does: each line of the made script, and then the line that sums all up is shown.
abbrev pub work_turns : Capacity → Rows → ℕ → ℕ → List Turn
work_turns K R seed count = unshown_lines K 1 (made_lines seed count) ++ said_turn (summary K R seed count) ∷ []

-- What is shown begins the line that sums all up, and at the end is all of it; then the disk keeps the rows after all
-- lines.
pub record Works {O : Type 0} (M : Members O) (K : Capacity) (R : Rows) (status : Status) (seed count : ℕ) (before : List ℕ) (new : O) : Type 0 where
  pub front : ShowsSome M (summary K R seed count) before new
  pub whole : status ≡ Done → M.shown new ≡ Some (before ++ summary K R seed count)
  pub kept : status ≡ Done → (parts : Parts) × (M.reads new ≡ Some parts) × (state_of parts ≡ Holds K (lasting (fold_from K R 1 (made_lines seed count))))

-- Lines over the rows of these parts: the looks for opening them, those of the lines and their replies, and, for each 1
-- MiB of records, of those that are there and those that it adds, 2 for each node of the largest volume on the way. So
-- many takes also the new image of a store of the first version.
pub record FewForLines (parts : Parts) (K : Capacity) (R : Rows) (lines : List (List ℕ)) (looks steps : ℕ) : Type 0 where
  pub opened : ℕ
  pub opening : FewLooks parts looks opened
  pub few : (ruling : Part) (tail most : ℕ) → judged_parts parts ≡ Ok ruling → HasTail tail parts → IsWithin most R (line_turns K 1 lines)
      → steps ≤ opened + (if is_first_version ruling parts then 2 * most else 0) + cost_from K R 1 lines + (tail + bytes_of R (line_turns K 1 lines)) / 1048576 * (2 * most)
