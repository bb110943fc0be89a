use Rattle.std.proofs.Common.{◌<◌, ◌∙◌, ap, sym, arith}
use Rattle.std.specs.Prelude.{false}
use Rattle.command_words.specs.Lengths.{word_length}
use Rattle.command_words.specs.Taking.{left}
use Rattle.command_words.proofs.LineWords.{taken_as, none_left, word_end}
use Rattle.command_words.proofs.words.Words.next_copied.Goals as goal

pub returns-then-length-eq0 : goal.returns-then-length-eq0
unfolding left
returns-then-length-eq0 c =
    let words = c.skip_blanks.new.self in
    (sym c.skip_blanks.ensures.left ∙ none_left words.column words.rest.now c.as_bytes-bytes.result.now c.word_len-length.result c.as_bytes-bytes.ensures.value c.word_len-length.ensures c.if-length-eq0.true c.skip_blanks.ensures.none, c.skip_blanks.ensures.end)

pub before-raw-requires : goal.before-raw-requires
before-raw-requires c = word_end c.skip_blanks.new.self.rest.now c.word_len-length.result (c.word_len-length.ensures ∙ ap (word_length false) c.as_bytes-bytes.ensures.value)

pub advance-requires : goal.advance-requires
advance-requires c = word_end c.skip_blanks.new.self.rest.now c.word_len-length.result (c.word_len-length.ensures ∙ ap (word_length false) c.as_bytes-bytes.ensures.value)

pub returns : goal.returns
unfolding left
returns c =
    let words = c.skip_blanks.new.self in
    let after = c.advance.new.self in
    let some : 0 < c.word_len-length.result = omega (arith, c.if-length-eq0.false) in (
      sym c.skip_blanks.ensures.left ∙ taken_as words.column after.column words.rest.now c.as_bytes-bytes.result.now c.word_len-length.result c.before-raw.result.now after.rest.now _ c.as_bytes-bytes.ensures.value c.word_len-length.ensures some c.before-raw.ensures c.advance.ensures.rest c.advance.ensures.column c.in_ok-text.ensures,
      c.advance.ensures.end ∙ c.skip_blanks.ensures.end,
    )
