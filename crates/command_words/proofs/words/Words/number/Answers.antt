use Rattle.std.proofs.Common.{◌∙◌, sym}
use Rattle.fsrm_model.specs.lines.Line.{number_word}
use Rattle.command_words.proofs.Numbers.{digits_word}
use Rattle.command_words.proofs.Taken.{number_taken, spoilt_number, taken_from}
use Rattle.command_words.proofs.words.Words.number.Goals as goal

pub take_plain-requires : goal.take_plain-requires
take_plain-requires c =
    let digits = c.leading_digits-digits.result in
    let bytes_is = c.as_bytes-text.ensures.value ∙ c.rest.ensures in
    digits_word c.skip_blanks.new.self.rest.now c.as_bytes-text.result.now digits.count digits.number bytes_is c.leading_digits-digits.ensures (sym c.is_word.ensures ∙ c.if-is_word.true)

pub returns-then-is_word-clause-read : goal.returns-then-is_word-clause-read
returns-then-is_word-clause-read c =
    let mid = c.skip_blanks.new.self in
    let digits = c.leading_digits-digits.result in
    let bytes_is = c.as_bytes-text.ensures.value ∙ c.rest.ensures in
    let word = digits_word mid.rest.now c.as_bytes-text.result.now digits.count digits.number bytes_is c.leading_digits-digits.ensures (sym c.is_word.ensures ∙ c.if-is_word.true) in
    number_taken c.args.low c.args.high c.in_range.result c.args.self.now mid c.take_plain.new.self c.as_bytes-text.result.now digits.count digits.number c.skip_blanks.ensures.left c.skip_blanks.ensures.end
    bytes_is c.leading_digits-digits.ensures word c.take_plain.ensures.left c.take_plain.ensures.end c.in_range.ensures.read

pub returns-then-is_spoilt-clause-read : goal.returns-then-is_spoilt-clause-read
returns-then-is_spoilt-clause-read c =
    let digits = c.leading_digits-digits.result in
    let bytes_is = c.as_bytes-text.ensures.value ∙ c.rest.ensures in
    rw (c.bad_line.ensures, c.column.ensures)
    (spoilt_number c.args.low c.args.high c.args.self.now c.skip_blanks.new.self c.as_bytes-text.result.now digits.count digits.number c.skip_blanks.ensures.left c.skip_blanks.ensures.end
    bytes_is c.leading_digits-digits.ensures (sym c.is_spoilt.ensures ∙ c.if-is_spoilt.true))

pub returns-clause-read : goal.returns-clause-read
returns-clause-read c =
    taken_from c.other_number.result c.args.self.now c.skip_blanks.new.self c.other_number.new.self (number_word c.args.low c.args.high) c.skip_blanks.ensures.left c.skip_blanks.ensures.end c.other_number.ensures.read
