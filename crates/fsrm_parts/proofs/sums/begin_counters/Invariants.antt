use Rattle.std.proofs.Common.{◌≡◌, take}
use Rattle.fsrm_parts.specs.Sums.{sums_of}
use Rattle.fsrm_parts.proofs.sums.begin_counters.Given as goal

abbrev pub invariant-loop-place : goal.invariant-loop-place
invariant-loop-place l = l.counters ≡ sums_of l.tree.size l.tree.nodes (take l.place l.objects.quotas)
