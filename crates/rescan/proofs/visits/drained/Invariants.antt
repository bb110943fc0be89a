use Rattle.std.proofs.Common.{◌≡◌, ◌++◌, length}
use Rattle.rescan.proofs.visits.drained.Given as goal

abbrev pub invariant-loop-least : goal.invariant-loop-least
invariant-loop-least l = l.list ++ l.set.members ≡ l.fn.set.members

abbrev pub decreases-loop-least : goal.decreases-loop-least
decreases-loop-least l = length l.set.members
