use Rattle.std.proofs.Common.{◌∙◌, sym, arith}
use Rattle.std.proofs.lemmas.List.Sums.{prefix_len-le-length}
use Rattle.command_words.specs.Lengths.{is_plain}
use Rattle.command_words.proofs.LineWords.{is_plain_word, plain_length, word_end}
use Rattle.command_words.proofs.Taken.{plain_left}
use Rattle.command_words.proofs.words.Words.next_plain.Goals as goal

pub is_word-requires : goal.is_word-requires
is_word-requires c = omega (arith, prefix_len-le-length is_plain c.as_bytes-bytes.result.now)

pub take_plain-requires : goal.take_plain-requires
take_plain-requires c =
    is_plain_word c.skip_blanks.new.self.rest.now c.as_bytes-bytes.result.now c.plain_len-count.result c.as_bytes-bytes.ensures.value c.plain_len-count.ensures (sym c.is_word.ensures ∙ c.if-not-is_word.false)

pub before-text-requires : goal.before-text-requires
before-text-requires c =
    let rest = c.skip_blanks.new.self.rest.now in
    let word = is_plain_word rest c.as_bytes-bytes.result.now c.plain_len-count.result c.as_bytes-bytes.ensures.value c.plain_len-count.ensures (sym c.is_word.ensures ∙ c.if-not-is_word.false) in
    word_end rest c.plain_len-count.result (plain_length rest c.plain_len-count.result word)

pub returns : goal.returns
returns c =
    plain_left c.args.self.now c.skip_blanks.new.self c.take_plain.new.self c.plain_len-count.result c.before-text.result.now c.skip_blanks.ensures.left c.skip_blanks.ensures.end c.take_plain.ensures.left c.take_plain.ensures.end c.before-text.ensures
