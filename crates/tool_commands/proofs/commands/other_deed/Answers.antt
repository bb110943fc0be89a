use Rattle.fsrm_model.specs.lines.Line.{readers}
use Rattle.tool_commands.specs.LineFaults.{ReadsWords, at_moment, named_by}
use Rattle.command_words.specs.Taking.{left, end, line_word}
use Rattle.tool_commands.proofs.NamedWords.{named_read}
use Rattle.std.proofs.Common.{subst}
use Rattle.tool_commands.proofs.commands.other_deed.Goals as goal

pub returns : goal.returns
returns c =
    let next = c.next.new.self in
    let is = c.in_ok-name.ensures in
    named_read readers (end c.args.words.now) (end next) (left c.args.words.now) (left next) (line_word c.in_ok-name.name) (λ last reader more. reader last more)
    (λ read. ReadsWords c.deed.result (at_moment c.args.moment read)) is.0 is.1
    (subst (λ word. ReadsWords c.deed.result (at_moment c.args.moment (named_by readers word (λ reader. reader (end next) (left next))))) c.lent.ensures c.deed.ensures)
