-- What replies come to.
use Rattle.std.specs.Prelude.{ℕ, ◌+◌, ◌<◌, ◌^◌, Bool, true, false, List, [], ◌∷◌, ◌++◌, length, decimal, codes, Option, Some, None, Ok, Err, if◌then◌else◌}
use Rattle.fsrm_model.specs.commands.Step.{step}
use Rattle.fsrm_model.specs.declared.command.Command.{Command}
use Rattle.fsrm_model.specs.declared.command.Outcome.{Outcome}
use Rattle.fsrm_model.specs.declared.command.Outcome.TheVariants.{Refused}
use Rattle.fsrm_model.specs.declared.row.Capacity.{Capacity}
use Rattle.fsrm_model.specs.declared.row.Rows.{Rows}
use Rattle.fsrm_model.specs.lines.Line.{read_line}
use Rattle.fsrm_model.specs.lines.Reading.{Read}
use Rattle.fsrm_model.specs.lines.Script.{replied, replied_to, without_cr}
use Rattle.made_script.specs.declared.tally.Tally.{Tally}

abbrev pub no_replies : Tally
no_replies = record { accepted = 0; refused = 0; acts = 0; bytes = 0 }

abbrev pub one_reply : Bool → ℕ → ℕ → Tally
one_reply accepts acts bytes =
    record { accepted = if accepts then 1 else 0; refused = if accepts then 0 else 1; acts = acts; bytes = bytes }

-- both, one after the other
abbrev pub plus : Tally → Tally → Tally
plus one two = record {
  accepted = one.accepted + two.accepted;
  refused = one.refused + two.refused;
  acts = one.acts + two.acts;
  bytes = one.bytes + two.bytes;
}

-- each number is one of 64 bits
pub record Fits (tally : Tally) : Type 0 where
  pub accepted : tally.accepted < 2 ^ 64
  pub refused : tally.refused < 2 ^ 64
  pub acts : tally.acts < 2 ^ 64
  pub bytes : tally.bytes < 2 ^ 64

abbrev pub accepts : Outcome → Bool
accepts (Refused refusal) = false
accepts other = true

-- what the reply to a line comes to that reads as this command, if it isn't refused or skipped
abbrev pub tally_of : Capacity → Rows → ℕ → Option (Read Command) → Tally
tally_of K R number None = no_replies
tally_of K R number (Some (Err refusal)) = one_reply false 0 (length (replied_to K R number (Some (Err refusal))).text)
tally_of K R number (Some (Ok c)) =
    let s = step K R c in one_reply (accepts s.outcome) (length s.acts) (length (replied_to K R number (Some (Ok c))).text)

-- and that to a line of these bytes
unfoldable pub line_tally : Capacity → Rows → ℕ → List ℕ → Tally
line_tally K R number bytes = tally_of K R number (read_line (without_cr bytes))

-- what the replies to lines come to that are numbered from a number on
abbrev pub tally_from : Capacity → Rows → ℕ → List (List ℕ) → Tally
tally_from K R number [] = no_replies
tally_from K R number (line ∷ lines) = plus (line_tally K R number line) (tally_from K (replied K R number line).rows (number + 1) lines)

-- the line that sums up so many lines
abbrev pub summary_line : ℕ → Tally → List ℕ
summary_line count tally =
    codes "work " ++ decimal count ++ codes " ok " ++ decimal tally.accepted ++ codes " refused " ++ decimal tally.refused
    ++ codes " acts " ++ decimal tally.acts ++ codes " bytes " ++ decimal tally.bytes ++ codes "\n"
