use Rattle.std.proofs.Common.{◌*◌, ◌-◌, length}
use Rattle.name_rules.specs.Fronts.{HasSameFront}
use Rattle.name_rules.proofs.order.same_words.Given as goal

abbrev pub invariant-loop-words : goal.invariant-loop-words
invariant-loop-words l = HasSameFront l.a l.b (8 * l.words)

abbrev pub decreases-loop-words : goal.decreases-loop-words
decreases-loop-words l = length l.ours - l.words
