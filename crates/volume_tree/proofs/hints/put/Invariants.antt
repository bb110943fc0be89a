use Rattle.std.proofs.Common.{◌<◌}
use Rattle.volume_tree.proofs.hints.put.Given as goal

abbrev pub invariant-loop-other : goal.invariant-loop-other
invariant-loop-other l = l.place < 4
