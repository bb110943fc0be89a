use Rattle.std.proofs.Common.{sym, ◌∙◌, subst}
use Rattle.command_words.specs.LineFaults.{Reads}
use Rattle.command_words.proofs.PatternLaws.{no_members, some_members}
use Rattle.command_words.proofs.patterns.read_non_members.Goals as goal

pub returns-then-is_empty : goal.returns-then-is_empty
returns-then-is_empty c = rw c.new.ensures (no_members c.args.text.now (sym c.is_empty.ensures ∙ c.if-is_empty.true))

pub returns : goal.returns
returns c = subst (Reads c.read_patterns.result) (sym (some_members c.args.text.now (sym c.is_empty.ensures ∙ c.if-is_empty.false))) c.read_patterns.ensures
