-- What a run does that moves old files.
use Rattle.std.specs.Prelude.{◌≡◌, ℕ, ◌+◌, ◌*◌, ◌<◌, ◌==◌, ◌&&◌, ◌⊎◌, false, List, [], ◌∷◌, ◌++◌, decimal, codes, length, map, slice_index_or, Option, Some, None, if◌then◌else◌}
use Rattle.std.specs.List.{list_any}
use Rattle.fsrm_model.specs.declared.command.Deed.TheVariants.{File}
use Rattle.fsrm_model.specs.declared.command.FileOp.{FileOp}
use Rattle.fsrm_model.specs.declared.command.Outcome.TheVariants.{Refused}
use Rattle.fsrm_model.specs.declared.command.Refusal.{Refusal}
use Rattle.fsrm_model.specs.declared.command.Refusal.TheVariants.{PathNotFound}
use Rattle.fsrm_model.specs.declared.row.Capacity.{Capacity}
use Rattle.fsrm_model.specs.declared.row.NodeRow.{NodeRow}
use Rattle.fsrm_model.specs.declared.row.Rows.{Rows}
use Rattle.fsrm_model.specs.commands.Cost.{path_cost}
use Rattle.fsrm_model.specs.nodes.FileOps.{target}
use Rattle.fsrm_model.specs.nodes.Leads.{leads_to_folder}
use Rattle.fsrm_model.specs.nodes.Tree.{name_of, node_of, number, parent_of}
use Rattle.fsrm_model.specs.texts.Printed.{line_of, path_text}
use Rattle.fsrm_model.specs.texts.Text.{reply}
use Rattle.fsrm_session.specs.Turns.{Turn, command_turn, refused_turn, rows_after, said_turn}
use Rattle.file_jobs.specs.Expired.{expired}
use Rattle.file_jobs.specs.Moves.{move_of, moved_path}
pub use Rattle.fsrm_modes.specs.declared.expiring.ExpireAsk.{ExpireAsk}

-- what some words ask for
abbrev pub ask_of : List (List ℕ) → List (List ℕ) → ℕ → List ℕ → ℕ → ExpireAsk
ask_of from to days pattern moment = record { from = from; to = to; expiry = record { days = days; pattern = pattern; moment = moment } }

-- the line before the move of a file, and the one of a file that can't be moved
abbrev pub move_line : List NodeRow → ℕ → ℕ → List ℕ
move_line nodes line node = line_of (decimal line ∷ codes "move" ∷ path_text nodes node ∷ [])

abbrev pub skipped_line : ℕ → List ℕ
skipped_line line = line_of (decimal line ∷ codes "skipped" ∷ [])

-- a file's move, under the number of its line
abbrev pub moving_turn : Capacity → ℕ → ℕ → Option FileOp → Turn
moving_turn K line moment None = said_turn (skipped_line line)
moving_turn K line moment (Some op) = command_turn K line (record { moment = moment; deed = File op })

-- the turns of a file that is moved into a folder: it is told, and moved
abbrev pub file_turns : Capacity → Rows → ℕ → ℕ → ℕ → ℕ → List Turn
file_turns K R to moment line node = said_turn (move_line R.nodes line node) ∷ moving_turn K line moment (move_of R.nodes node to) ∷ []

-- the turns of files, each over the rows that those before it leave
abbrev pub files_turns : Capacity → Rows → ℕ → ℕ → ℕ → List ℕ → List Turn
files_turns K R to moment line [] = []
files_turns K R to moment line (node ∷ nodes) =
    let turns = file_turns K R to moment line node in turns ++ files_turns K (rows_after R turns) to moment (line + 1) nodes

-- a run over these rows: the files that expire there are moved, in the order of their numbers, if both folders are
-- there
abbrev pub expire_turns : Capacity → Rows → ExpireAsk → List Turn
expire_turns K R ask =
    let from = target R.nodes ask.from in
    let to = target R.nodes ask.to in
    if leads_to_folder R.nodes ask.from && leads_to_folder R.nodes ask.to
    then files_turns K R to ask.expiry.moment 1 (map number (expired R.nodes from to ask.expiry))
    else refused_turn K 0 PathNotFound ∷ []

-- ---- the looks beside those of the moves
-- for the paths of a file that is told and moved
abbrev pub file_cost : List NodeRow → ℕ → ℕ → ℕ
file_cost nodes to node = 2 * path_cost nodes node + 4 * (length (moved_path nodes node to) + 1)

-- for those of all files, each over the rows that those before it leave
abbrev pub files_cost : Capacity → Rows → ℕ → ℕ → ℕ → List ℕ → ℕ
files_cost K R to moment line [] = 0
files_cost K R to moment line (node ∷ nodes) = file_cost R.nodes to node + files_cost K (rows_after R (file_turns K R to moment line node)) to moment (line + 1) nodes

-- for finding both folders, and, if both are there, the files, and for these
abbrev pub expire_cost : Capacity → Rows → ExpireAsk → ℕ
expire_cost K R ask =
    let from = target R.nodes ask.from in
    let to = target R.nodes ask.to in
    22 * (length ask.from + length ask.to) + 4
    + (if leads_to_folder R.nodes ask.from && leads_to_folder R.nodes ask.to
    then 4 * (length R.nodes + 1) + files_cost K R to ask.expiry.moment 1 (map number (expired R.nodes from to ask.expiry))
    else 0)

-- ---- where the files stand after a run
-- whole lines: nothing, or a text whose last byte ends a line
abbrev pub IsWholeLines : List ℕ → Type 0
IsWholeLines text = (text ≡ []) ⊎ ((first : List ℕ) × (text ≡ first ++ 10 ∷ []))

-- A text says of a file, by its number, that it is skipped, or why it can't be moved. The line stands after whole
-- lines.
pub record SaysNot (K : Capacity) (moment number : ℕ) (text : List ℕ) : Type 0 where
  pub before : List ℕ
  pub line : List ℕ
  pub after : List ℕ
  pub text_is : text ≡ before ++ (line ++ after)
  pub whole : IsWholeLines before
  pub line_is : (line ≡ skipped_line number) ⊎ ((rows : Rows) × ((refusal : Refusal) × (line ≡ reply K rows moment number (Refused refusal))))

-- the files that expire over these rows
abbrev pub expired_files : Rows → ExpireAsk → List ℕ
expired_files R ask = map number (expired R.nodes (target R.nodes ask.from) (target R.nodes ask.to) ask.expiry)

-- Each of these files stands in the folder then, or the text says why it doesn't. No other node changed, and no name.
pub record Places (K : Capacity) (R S : Rows) (to moment : ℕ) (files text : List ℕ) : Type 0 where
  pub in_folder : (place : ℕ) → place < length files → (parent_of S.nodes (slice_index_or files place 0) ≡ to) ⊎ SaysNot K moment (1 + place) text
  pub others : (n : ℕ) → list_any (λ file. file == n) files ≡ false → node_of S.nodes n ≡ node_of R.nodes n
  pub names : (n : ℕ) → name_of S.nodes n ≡ name_of R.nodes n
