-- A script, and the text of its replies.
use Rattle.std.specs.Prelude.{◌≡◌, ℕ, ◌+◌, ◌==◌, Bool, false, List, [], ◌∷◌, ◌++◌, take, Ok, Err, Option, Some, None, if◌then◌else◌}
use Rattle.std.specs.List.{list_any}
use Rattle.fsrm_model.specs.declared.row.Capacity.{Capacity}
use Rattle.fsrm_model.specs.declared.row.Rows.{Rows}
use Rattle.fsrm_model.specs.declared.command.Command.{Command}
use Rattle.fsrm_model.specs.declared.command.Outcome.TheVariants.{Refused}
use Rattle.fsrm_model.specs.lines.Reading.{Read}
use Rattle.fsrm_model.specs.lines.Line.{read_line}
use Rattle.fsrm_model.specs.commands.Step.{step}
use Rattle.fsrm_model.specs.texts.ActText.{act_lines}
use Rattle.fsrm_model.specs.commands.Cost.{cost, print_cost, report_cost, acts_cost}
use Rattle.fsrm_model.specs.texts.Text.{reply}

-- the byte that ends a line, LF
abbrev pub is_end : ℕ → Bool
is_end b = b == 10

-- a byte in front of the first line
abbrev pub onto_first : ℕ → List (List ℕ) → List (List ℕ)
onto_first b [] = (b ∷ []) ∷ []
onto_first b (line ∷ lines) = (b ∷ line) ∷ lines

-- the lines of a script: what stands before each LF, and what is left after the last if that isn't empty
abbrev pub lines : List ℕ → List (List ℕ)
lines [] = []
lines (b ∷ bs) = if is_end b then [] ∷ lines bs else onto_first b (lines bs)

-- a line without the one CR that may stand at its end
abbrev pub without_cr : List ℕ → List ℕ
without_cr [] = []
without_cr (b ∷ []) = if b == 13 then [] else b ∷ []
without_cr (b ∷ c ∷ bs) = b ∷ without_cr (c ∷ bs)

-- lines as they stand in a script, each with its LF
abbrev pub spelled_lines : List (List ℕ) → List ℕ
spelled_lines [] = []
spelled_lines (line ∷ lines) = line ++ 10 ∷ spelled_lines lines

-- no LF in any of them
abbrev pub AreLines : List (List ℕ) → Type 0
AreLines [] = Unit {0}
AreLines (line ∷ lines) = (list_any is_end line ≡ false) × AreLines lines

-- what a line leaves, and what is written for it
pub record Replied : Type 0 where
  pub rows : Rows
  pub text : List ℕ

-- a reply ends with the actions that ran. A line that is refused as it is read has no moment
abbrev pub replied_to : Capacity → Rows → ℕ → Option (Read Command) → Replied
replied_to K R line None = record { rows = R; text = [] }
replied_to K R line (Some (Err refusal)) = record { rows = R; text = reply K R 0 line (Refused refusal) }
replied_to K R line (Some (Ok c)) = let s = step K R c in record { rows = s.rows; text = reply K s.rows c.moment line s.outcome ++ act_lines s.rows s.acts }

-- what a line of these bytes leaves, and its reply. A skipped line has none
unfoldable pub replied : Capacity → Rows → ℕ → List ℕ → Replied
replied K R line bytes = replied_to K R line (read_line (without_cr bytes))

-- the text of lines that are numbered from a number on
abbrev pub text_from : Capacity → Rows → ℕ → List (List ℕ) → List ℕ
text_from K R line [] = []
text_from K R line (l ∷ ls) = let r = replied K R line l in r.text ++ text_from K r.rows (line + 1) ls

-- the rows after lines that are numbered from a number on
abbrev pub fold_from : Capacity → Rows → ℕ → List (List ℕ) → Rows
fold_from K R line [] = R
fold_from K R line (l ∷ ls) = fold_from K (replied K R line l).rows (line + 1) ls

-- the text of a script's replies: what the program writes if it comes to the end, and else a front of it
abbrev pub text : Capacity → Rows → List ℕ → List ℕ
text K R script = text_from K R 1 (lines script)

-- the rows after the commands of the script's first j lines
abbrev pub fold_script : Capacity → Rows → List ℕ → ℕ → Rows
fold_script K R script j = fold_from K R 1 (take j (lines script))

-- how many looks at nodes a line may take: its command, its report, and what is printed of it
abbrev pub read_cost : Capacity → Rows → Option (Read Command) → ℕ
read_cost K R None = 0
read_cost K R (Some (Err refusal)) = 0
read_cost K R (Some (Ok c)) = let s = step K R c in cost R c + (report_cost s.rows.nodes s.outcome + (print_cost K s.rows c.moment s.outcome + acts_cost s.rows.nodes s.acts))

-- how many looks a line of these bytes may take
unfoldable pub line_cost : Capacity → Rows → List ℕ → ℕ
line_cost K R bytes = read_cost K R (read_line (without_cr bytes))

-- and all lines, each over the rows before it
abbrev pub cost_from : Capacity → Rows → ℕ → List (List ℕ) → ℕ
cost_from K R line [] = 0
cost_from K R line (l ∷ ls) = line_cost K R l + cost_from K (replied K R line l).rows (line + 1) ls

abbrev pub script_cost : Capacity → Rows → List ℕ → ℕ
script_cost K R script = cost_from K R 1 (lines script)
