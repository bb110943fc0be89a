use Rattle.std.proofs.Common.{sym, subst}
use Rattle.command_words.specs.LineFaults.{Reads}
use Rattle.command_words.proofs.CommaLaws.{no_notice, short_notice, whole_notice}
use Rattle.command_words.proofs.actions.read_notice.Goals as goal

pub returns-in_default : goal.returns-in_default
returns-in_default c = rw c.bad_line.ensures (no_notice c.args.column c.args.text.now c.in_default.ensures)

pub returns-in_default-action_parts : goal.returns-in_default-action_parts
returns-in_default-action_parts c = rw c.bad_line-in_default-action_parts.ensures (short_notice c.args.column c.args.text.now c.in-Some.percent.now c.in-Some.action.now c.in-Some.ensures c.in_default-action_parts.ensures)

pub returns : goal.returns
returns c =
    let parts = c.in-Some-action_parts.action in
    subst (Reads c.read_added.result)
    (sym (whole_notice c.args.column c.args.text.now c.in-Some.percent.now c.in-Some.action.now parts.kind.now parts.minutes.now parts.text.now c.in-Some.ensures c.in-Some-action_parts.ensures))
    c.read_added.ensures
