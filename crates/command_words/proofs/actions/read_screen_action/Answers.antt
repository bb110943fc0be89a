use Rattle.std.proofs.Common.{sym, subst}
use Rattle.command_words.specs.LineFaults.{Reads}
use Rattle.command_words.proofs.CommaLaws.{short_action, whole_action}
use Rattle.command_words.proofs.actions.read_screen_action.Goals as goal

pub returns-in_default : goal.returns-in_default
returns-in_default c = rw c.bad_line.ensures (short_action c.args.column c.args.text.now c.in_default.ensures)

pub returns : goal.returns
returns c =
    let parts = c.in-Some.parts in
    subst (Reads c.read_action.result)
    (sym (whole_action c.args.column c.args.text.now parts.kind.now parts.minutes.now parts.text.now c.in-Some.ensures)) c.read_action.ensures
