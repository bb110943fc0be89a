use Rattle.std.proofs.Common.{◌≡◌, ◌++◌, length}
use Rattle.file_jobs.proofs.finding.members.Given as goal

abbrev pub invariant-loop-number : goal.invariant-loop-number
invariant-loop-number l = l.numbers.items ++ l.set.members ≡ l.fn.set.members

abbrev pub decreases-loop-number : goal.decreases-loop-number
decreases-loop-number l = length l.set.members
