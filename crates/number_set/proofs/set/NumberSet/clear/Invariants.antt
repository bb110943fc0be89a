use Rattle.std.proofs.Common.{◌≡◌, length}
use Rattle.number_set.proofs.set.NumberSet.clear.Given as goal

abbrev pub invariant-loop : goal.invariant-loop
invariant-loop l = l.self.bound ≡ l.initial.self.bound

abbrev pub decreases-loop : goal.decreases-loop
decreases-loop l = length l.self.members
