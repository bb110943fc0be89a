-- Reading a line refuses only as a line is refused.
use Rattle.std.proofs.Common.{◌≡◌, ℕ, ◌+◌, List, Bool, true, false, length, refl, subst}
use Rattle.std.specs.Prelude.{Ok, Err, not, nat_lt, Option, Some, None, if◌then◌else◌}
use Rattle.std.specs.Str.{is_utf8}
use Rattle.std.specs.Str.Lossy.{utf8_valid_len}
use Rattle.fsrm_model.specs.declared.command.Command.{Command}
use Rattle.fsrm_model.specs.declared.command.Refusal.{Refusal}
use Rattle.fsrm_model.specs.declared.command.Refusal.TheVariants.{BadLine, LineTooLong}
use Rattle.fsrm_model.specs.values.Limits.{longest_line}
use Rattle.fsrm_model.specs.lines.Line.{command_of, is_skipped, read_words, is_line_refusal, read_line}
use Rattle.fsrm_model.specs.lines.Reading.{Read}
use Rattle.fsrm_model.specs.lines.Words.{words_at, parts_from, is_closed, last_quote, words}
use Rattle.fsrm_model.proofs.lines.CommandLaws.{command_line}
use Rattle.fsrm_model.proofs.lines.LineValues.{AsLine, then_line, if_line}

words_line : (line : List ℕ) → AsLine (words line)
words_line line = if_line (is_closed line) (Ok (words_at 1 (parts_from false line))) (Err (BadLine (last_quote line))) tt refl

-- a line that is skipped, or read
abbrev MaybeLine : Option (Read Command) → Type 0
MaybeLine None = Unit {0}
MaybeLine (Some r) = AsLine r

maybe_line : (test : Bool) (o p : Option (Read Command)) → MaybeLine o → MaybeLine p → MaybeLine (if test then o else p)
maybe_line true o p h k = h
maybe_line false o p h k = k

whole_line : (line : List ℕ) → MaybeLine (read_line line)
unfolding read_line
whole_line line =
    let looked : Option (Read Command) = if is_skipped line then None else Some (read_words line) in
    let bytes : Option (Read Command) = if not (is_utf8 line) then Some (Err (BadLine (utf8_valid_len line + 1))) else looked in
    let read = then_line (words line) (λ given. command_of (length line + 1) given) (words_line line) (λ given. command_line (length line + 1) given) in
    maybe_line (nat_lt longest_line (length line)) (Some (Err LineTooLong)) bytes refl
    (maybe_line (not (is_utf8 line)) (Some (Err (BadLine (utf8_valid_len line + 1)))) looked refl
    (maybe_line (is_skipped line) None (Some (read_words line)) tt read))

-- the refusal of a line is one that a line may have
pub line_refusal : (line : List ℕ) (refusal : Refusal) → read_line line ≡ Some (Err refusal) → is_line_refusal refusal ≡ true
line_refusal line refusal h = subst MaybeLine h (whole_line line)
