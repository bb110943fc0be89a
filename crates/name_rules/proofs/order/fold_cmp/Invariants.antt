use Rattle.std.proofs.Common.{◌-◌, length}
use Rattle.name_rules.specs.Fronts.{HasSameFront}
use Rattle.name_rules.proofs.order.fold_cmp.Given as goal

abbrev pub invariant-loop-front : goal.invariant-loop-front
invariant-loop-front l = HasSameFront l.ours l.theirs l.front

abbrev pub decreases-loop-front : goal.decreases-loop-front
decreases-loop-front l = length l.ours - l.front
