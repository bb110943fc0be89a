use Rattle.node_order.proofs.Lower.{AreLowerLeft}
use Rattle.node_order.proofs.segments.lower_runs.Given as goal

abbrev pub invariant-loop-size : goal.invariant-loop-size
invariant-loop-size l = AreLowerLeft l.order l.folder l.low l.size

abbrev pub decreases-loop-size : goal.decreases-loop-size
decreases-loop-size l = l.size
