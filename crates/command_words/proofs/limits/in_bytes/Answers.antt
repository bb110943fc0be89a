use Rattle.command_words.proofs.LimitWords.{too_many}
use Rattle.command_words.proofs.limits.in_bytes.Goals as goal

pub returns-in-Err-clause-too_many : goal.returns-in-Err-clause-too_many
returns-in-Err-clause-too_many c =
    too_many c.args.digits.now c.parse.result c.in-Err.field-0 c.args.unit c.parse.ensures.value.0 c.in-Err.is c.requires.digits c.requires.some c.requires.unit
