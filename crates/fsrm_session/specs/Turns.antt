-- What a run does, turn by turn, what is shown of it, and what it takes.
use Rattle.std.specs.Prelude.{◌≡◌, ℕ, ◌+◌, ◌≤◌, List, [], ◌∷◌, ◌++◌, length, Ok, Err, Some}
use Rattle.fsrm_model.specs.declared.command.Act.{Act}
use Rattle.fsrm_model.specs.declared.command.Command.{Command}
use Rattle.fsrm_model.specs.declared.command.Outcome.{Outcome}
use Rattle.fsrm_model.specs.declared.command.Refusal.{Refusal}
use Rattle.fsrm_model.specs.declared.row.Capacity.{Capacity}
use Rattle.fsrm_model.specs.declared.row.Rows.{Rows}
use Rattle.fsrm_model.specs.commands.Cost.{acts_cost, print_cost, report_cost}
use Rattle.fsrm_model.specs.lines.Script.{line_cost, lines, read_cost, replied, replied_to}
use Rattle.fsrm_model.specs.store.Replays.{line_entries, read_entries}
use Rattle.fsrm_model.specs.texts.ActText.{act_lines}
use Rattle.fsrm_model.specs.texts.Text.{reply}
use Rattle.fsrm_store.specs.Amortized.{entries_bytes}
use Rattle.reply_text.specs.declared.replies.Line.{Line}

-- What a turn shows, the rows after it, how many looks at nodes it may take, and the bytes of its records, each by the
-- rows before it.
pub record Turn : Type 0 where
  pub said : Rows → List ℕ
  pub after : Rows → Rows
  pub looks : Rows → ℕ
  pub bytes : Rows → ℕ

-- the text of turns, one after the other, from these rows on
abbrev pub text_of : Rows → List Turn → List ℕ
text_of R [] = []
text_of R (turn ∷ turns) = turn.said R ++ text_of (turn.after R) turns

-- the rows after them
abbrev pub rows_after : Rows → List Turn → Rows
rows_after R [] = R
rows_after R (turn ∷ turns) = rows_after (turn.after R) turns

-- ---- what they take, one after the other, from these rows on
-- the looks
abbrev pub looks_of : Rows → List Turn → ℕ
looks_of R [] = 0
looks_of R (turn ∷ turns) = turn.looks R + looks_of (turn.after R) turns

-- the bytes of their records
abbrev pub bytes_of : Rows → List Turn → ℕ
bytes_of R [] = 0
bytes_of R (turn ∷ turns) = turn.bytes R + bytes_of (turn.after R) turns

-- no rows on the way have more nodes, the first and the last among them
abbrev pub IsWithin : ℕ → Rows → List Turn → Type 0
IsWithin most R [] = length R.nodes ≤ most
IsWithin most R (turn ∷ turns) = (length R.nodes ≤ most) × IsWithin most (turn.after R) turns

-- ---- turns
-- a command, to which the reply is that to a line of this number
abbrev pub command_turn : Capacity → ℕ → Command → Turn
command_turn K number c = record {
  said = λ R. (replied_to K R number (Some (Ok c))).text;
  after = λ R. (replied_to K R number (Some (Ok c))).rows;
  looks = λ R. read_cost K R (Some (Ok c));
  bytes = λ R. entries_bytes (read_entries K R (Some (Ok c)));
}

-- a line that is refused as it is read
abbrev pub refused_turn : Capacity → ℕ → Refusal → Turn
refused_turn K number refusal = record {
  said = λ R. (replied_to K R number (Some (Err refusal))).text;
  after = λ R. (replied_to K R number (Some (Err refusal))).rows;
  looks = λ R. read_cost K R (Some (Err refusal));
  bytes = λ R. entries_bytes (read_entries K R (Some (Err refusal)));
}

-- a text that tells of no command
abbrev pub said_turn : List ℕ → Turn
said_turn text = record { said = λ R. text; after = λ R. R; looks = λ R. 0; bytes = λ R. 0 }

-- a line, whatever it asks for
abbrev pub line_turn : Capacity → ℕ → List ℕ → Turn
line_turn K number line = record {
  said = λ R. (replied K R number line).text;
  after = λ R. (replied K R number line).rows;
  looks = λ R. line_cost K R line;
  bytes = λ R. entries_bytes (line_entries K R line);
}

-- lines that are numbered from a number on
abbrev pub line_turns : Capacity → ℕ → List (List ℕ) → List Turn
line_turns K number [] = []
line_turns K number (line ∷ lines) = line_turn K number line ∷ line_turns K (number + 1) lines

-- a script
abbrev pub script_turns : Capacity → List ℕ → List Turn
script_turns K script = line_turns K 1 (lines script)

-- the same turn, of which nothing is shown
abbrev pub unshown : Turn → Turn
unshown turn = record turn { said = λ R. [] }

-- ---- turns that do the same
-- they show the same, leave the same rows, and take as much, whatever rows they come to
pub record IsAlike (one two : Turn) : Type 0 where
  pub said : (R : Rows) → one.said R ≡ two.said R
  pub after : (R : Rows) → one.after R ≡ two.after R
  pub looks : (R : Rows) → one.looks R ≡ two.looks R
  pub bytes : (R : Rows) → one.bytes R ≡ two.bytes R

-- so do these, one by one
abbrev pub AreAlike : List Turn → List Turn → Type 0
AreAlike [] [] = Unit {0}
AreAlike [] (turn ∷ turns) = ⊥
AreAlike (turn ∷ turns) [] = ⊥
AreAlike (one ∷ ones) (two ∷ twos) = IsAlike one two × AreAlike ones twos

-- ---- what is told of a command that was done
-- the reply of this outcome to a line, and then the lines of the acts that wait
abbrev pub told : Capacity → Rows → List Act → Line → Outcome → List ℕ
told K R waiting line outcome = reply K R line.moment line.number outcome ++ act_lines R waiting

-- and the looks that it takes to make a report, if it is one, and to write all this
abbrev pub telling_cost : Capacity → Rows → List Act → ℕ → Outcome → ℕ
telling_cost K R waiting moment outcome = report_cost R.nodes outcome + (print_cost K R moment outcome + acts_cost R.nodes waiting)
