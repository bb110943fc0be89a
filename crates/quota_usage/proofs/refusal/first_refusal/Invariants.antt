use Rattle.std.proofs.Common.{◌≡◌, ◌+◌, length}
use Rattle.fsrm_model.specs.nodes.Tree.{chain}
use Rattle.quota_usage.specs.Climb.{refusal_of}
use Rattle.quota_usage.proofs.ClimbLaws.{FitAll, first_in}
use Rattle.quota_usage.proofs.refusal.first_refusal.Given as goal

-- the first refusal on what is left of the way is that on all of it
abbrev pub invariant-loop-at : goal.invariant-loop-at
invariant-loop-at g l = record {
  fits : FitAll l.counters l.way l.minus l.plus;
  first : first_in (refusal_of l.objects.quotas l.counters l.minus l.plus) l.way ≡ first_in (refusal_of l.objects.quotas l.counters l.minus l.plus) (chain l.tree.nodes l.start);
  looks : l.steps + length l.way ≡ l.fn.steps + length (chain l.tree.nodes l.start);
}

abbrev pub decreases-loop-at : goal.decreases-loop-at
decreases-loop-at g l = length l.way
