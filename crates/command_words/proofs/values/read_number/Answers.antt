use Rattle.std.proofs.Common.{Some, subst, sym}
use Rattle.command_words.specs.LineFaults.{Reads}
use Rattle.command_words.specs.Numerals.{ReadsNumber}
use Rattle.command_words.proofs.Numbers.{read_as}
use Rattle.command_words.proofs.values.read_number.Goals as goal

pub returns-in-Some-clause-read : goal.returns-in-Some-clause-read
returns-in-Some-clause-read c =
    let read = subst (ReadsNumber (Some c.in-Some.number)) c.as_bytes.ensures.value c.in-Some.ensures in
    let is = read_as c.args.low c.args.high c.args.column c.args.text.now c.in-Some.number read c.requires.high in
    subst (Reads c.in_range.result) (sym is) c.in_range.ensures.read
