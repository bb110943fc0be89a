use Rattle.command_words.proofs.CommaLaws.{first_missing, second_missing}
use Rattle.command_words.proofs.actions.action_parts.Goals as goal

pub returns-in_err-kind : goal.returns-in_err-kind
returns-in_err-kind c = rw c.from_residual.ensures (first_missing c.args.text.now c.in_err-kind.ensures)

pub returns-in_err-minutes : goal.returns-in_err-minutes
returns-in_err-minutes c = rw c.from_residual-in_err-minutes.ensures (second_missing c.args.text.now c.in_ok-kind.kind.now c.in_ok-kind.rest.now c.in_ok-kind.ensures c.in_err-minutes.ensures)

pub returns : goal.returns
returns c = record { rest = c.in_ok-kind.rest.now; first = c.in_ok-kind.ensures; second = c.in_ok-minutes.ensures }
