use Rattle.std.proofs.Common.{arith}
use Rattle.std.proofs.lemmas.List.Sums.{prefix_len-le-length}
use Rattle.fsrm_model.specs.lines.Words.{is_blank}
use Rattle.command_words.specs.Taking.{left}
use Rattle.command_words.proofs.LineWords.{no_column, column_after}
use Rattle.command_words.proofs.words.Words.next_column.Goals as goal

pub returns-then-blanks-self : goal.returns-then-blanks-self
unfolding left
returns-then-blanks-self c =
    let words = c.args.self.now in
    no_column words.column words.rest.now c.as_bytes.result.now c.blanks-blanks.result c.as_bytes.ensures.value c.blanks-blanks.ensures c.if-blanks-self.true

pub overflow_cast-result : goal.overflow_cast-result
overflow_cast-result c = omega (arith, prefix_len-le-length is_blank c.as_bytes.result.now, c.args.self.now.within)

pub overflow_add-result : goal.overflow_add-result
overflow_add-result c = omega (arith, prefix_len-le-length is_blank c.as_bytes.result.now, c.args.self.now.within)

pub returns : goal.returns
unfolding left
returns c =
    let words = c.args.self.now in
    column_after words.column words.rest.now c.as_bytes.result.now c.blanks-blanks.result c.as_bytes.ensures.value c.blanks-blanks.ensures c.if-blanks-self.false
