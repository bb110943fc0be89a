-- The next word is a name.
use Rattle.std.proofs.Common.{◌≡◌, ℕ, ◌+◌, Bool, true, false, cond, List, length, refl, sym, ap, ◌∙◌, subst}
use Rattle.std.specs.Prelude.{Ok, Err, Option, Some, None, Result}
use Rattle.fsrm_model.specs.declared.command.Command.{Command}
use Rattle.fsrm_model.specs.declared.command.Deed.{Deed}
use Rattle.fsrm_model.specs.declared.command.Refusal.TheVariants.{BadLine}
use Rattle.fsrm_model.specs.lines.Line.{next_word, named_word, number_word, deed_words, command_of, read_words}
use Rattle.fsrm_model.specs.values.Limits.{latest_moment}
use Rattle.fsrm_model.specs.lines.Reading.{Read, ◌>>=◌, known}
use Rattle.fsrm_model.specs.lines.Tools.{Names, named}
use Rattle.fsrm_model.specs.lines.Words.{Word, is_closed, last_quote, parts_from, words_at}
use Rattle.command_words.specs.declared.fault.LineFault.{LineFault}
use Rattle.command_words.specs.declared.fault.LineFault.TheVariants.{Refused, NoMemory}
use Rattle.command_words.specs.LineFaults.{Reads}
use Rattle.tool_commands.specs.LineFaults.{ReadsWords, at_moment, named_by}
use Rattle.tool_commands.proofs.QuoteCounts.{unclosed}

-- what it stands for goes on with the words that are left
pub named_read : {X : Type 0} (names : Names X) (end last : ℕ) (given more : List Word) (word : Word) (next : ℕ → X → List Word → Read Deed) (P : Read Deed → Type 0) → next_word end given ≡ Ok (word, more) → last ≡ end → P (named_by names word (λ own. next last own more)) → P (named_word names end given (next end))
named_read names end last given more word next P e same read =
    subst P
    (ap (λ (n : ℕ). named_by names word (λ own. next n own more)) same
    ∙ sym (ap (λ (r : Read (Word × List Word)). r >>= λ name. known (BadLine name.0.column) (named names name.0.text) >>= λ own. next end own name.1) e))
    read

-- a moment, and what is to be done then
pub moment_read : (end last : ℕ) (given more : List Word) (moment : ℕ) (result : Result (Option Command) LineFault) → number_word 0 latest_moment end given ≡ Ok (moment, more) → last ≡ end → ReadsWords result (at_moment moment (deed_words last more)) → ReadsWords result (command_of end given)
moment_read end last given more moment result e same read =
    subst (ReadsWords result)
    (ap (λ (n : ℕ). at_moment moment (deed_words n more)) same
    ∙ sym (ap (λ (r : Read (ℕ × List Word)). r >>= λ first. at_moment first.0 (deed_words end first.1)) e))
    read

-- a moment that is refused
pub fault_at_moment : (end : ℕ) (given : List Word) (fault : LineFault) → Reads {X = ℕ × List Word} (Err fault) (number_word 0 latest_moment end given) → ReadsWords (Err fault) (command_of end given)
fault_at_moment end given (Refused refusal) h = ap (λ (r : Read (ℕ × List Word)). r >>= λ first. at_moment first.0 (deed_words end first.1)) h
fault_at_moment end given NoMemory h = tt

-- a line whose quotes are ended reads as its words do
closed_by : (closed : Bool) (column : ℕ) → None ≡ cond closed None (Some column) → closed ≡ true
closed_by true column h = refl
closed_by false column h = absurd (cc h)

pub line_words : (line : List ℕ) (end : ℕ) (given : List Word) → None ≡ unclosed line → given ≡ words_at 1 (parts_from false line) → end ≡ length line + 1 → command_of end given ≡ read_words line
line_words line end given none given_is end_is = rw (given_is, end_is, closed_by (is_closed line) (last_quote line) none) refl
