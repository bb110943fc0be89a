use Rattle.std.proofs.Common.{arith}
use Rattle.number_set.proofs.WordLaws.{least_bit, empty_word}
use Rattle.number_set.proofs.words.least_in.Goals as goal

pub returns-then-word-eq0 : goal.returns-then-word-eq0
returns-then-word-eq0 c = empty_word _ _ c.if-word-eq0.true

pub returns : goal.returns
returns c = least_bit c.args.words.now c.args.place c.if-word-eq0.false (let f = c.type_inv.words c.args.place in omega arith)
