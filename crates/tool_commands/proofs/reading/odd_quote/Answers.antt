use Rattle.std.proofs.Common.{◌≡◌, ◌%◌, length, subst}
use Rattle.memchr.specs.Find.{IsLastByte, is_byte}
use Rattle.tool_commands.proofs.QuoteCounts.{no_quotes, even_quotes, odd_quotes}
use Rattle.tool_commands.proofs.reading.odd_quote.Goals as goal

pub returns-in_default-clause-column : goal.returns-in_default-clause-column
returns-in_default-clause-column c = no_quotes c.args.line.now (subst (IsLastByte (is_byte 34) c.args.line.now) c.in_default.is c.memrchr.ensures)

pub returns-then-count-eq0-clause-column : goal.returns-then-count-eq0-clause-column
returns-then-count-eq0-clause-column c =
    let even : length c.memchr_iter.result % 2 ≡ 0 = rw (← c.count.ensures) c.if-count-eq0.true in
    even_quotes c.args.line.now c.memchr_iter.result c.memchr_iter.ensures.value even

pub returns-clause-column : goal.returns-clause-column
returns-clause-column c =
    let last = subst (IsLastByte (is_byte 34) c.args.line.now) c.in-Some.is c.memrchr.ensures in
    odd_quotes c.args.line.now c.in-Some.last c.memchr_iter.result last c.memchr_iter.ensures.value (λ even. c.if-count-eq0.false (rw c.count.ensures even))
