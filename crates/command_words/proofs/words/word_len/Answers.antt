use Rattle.std.proofs.Common.{arith}
use Rattle.command_words.proofs.WordLengths.{turn, first_turn}
use Rattle.command_words.proofs.words.word_len.Goals as goal

pub loop-place-init : goal.loop-place-init
loop-place-init c =
    let first = first_turn c.args.text.now c.args.plain c.requires in
    record { within = first.0; word = first.1; marked = first.2 }

pub overflow_add-place : goal.overflow_add-place
overflow_add-place c =
    let t = turn c.args.text.now c.loop-place.place c.quoted_len.result c.plain_len.result c.loop-place-test.true c.if-text-place-eq34.true c.quoted_len.ensures c.plain_len.ensures in
    omega (arith, t.within)

pub loop-place-preserved : goal.loop-place-preserved
loop-place-preserved c =
    let t = turn c.args.text.now c.loop-place.place c.quoted_len.result c.plain_len.result c.loop-place-test.true c.if-text-place-eq34.true c.quoted_len.ensures c.plain_len.ensures in
    record { within = t.within; word = omega (arith, t.word, c.loop-place.invariant.word); marked = t.marked }
