use Rattle.std.proofs.Common.{[], ◌<◌, ◌/◌, ap, get_or, length, refl, ◌∙◌, arith}
use Rattle.name_rules.proofs.Words.{front_longer, word_at}
use Rattle.name_rules.proofs.order.same_words.Goals as goal

pub loop-words-preserved : goal.loop-words-preserved
loop-words-preserved c =
    let a = c.args.a.now in
    let b = c.args.b.now in
    let words = c.loop-words.words in
    let more : words < length a / 8 = omega (arith, c.as_chunks.ensures.front_len, c.loop-words-test.true) in
    let more' : words < length b / 8 = omega (arith, c.as_chunks-2.ensures.front_len, c.if-words-theirs.true) in
    let one = ap (λ ws. get_or ws words []) c.as_chunks.ensures.front ∙ word_at (length a / 8) a [] words more in
    let other = ap (λ ws. get_or ws words []) c.as_chunks-2.ensures.front ∙ word_at (length b / 8) b [] words more' in
    front_longer a b _ words c.loop-words.invariant (c.if-is_same_word.ensures.ascii refl) one (c.if-is_same_word.ensures.same refl ∙ other) more more'
