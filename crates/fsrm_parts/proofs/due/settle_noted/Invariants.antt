use Rattle.std.proofs.Common.{◌≡◌, true, length}
use Rattle.fsrm_base.specs.Numbers.{is_set}
use Rattle.fsrm_parts.specs.Crossing.{gained_acts}
use Rattle.fsrm_parts.proofs.settling.SettledLaws.{Settled}
use Rattle.fsrm_parts.proofs.due.settle_noted.Given as goal

-- some places are left, whose quotas are as they were
abbrev pub invariant-loop-place : goal.invariant-loop-place
invariant-loop-place l = record {
  settled : Settled (gained_acts l.usage l.gain.minus l.gain.plus l.run_limit l.gain.moment) l.gain.moment l.fn.marks l.marks l.fn.objects l.objects l.fn.crossing.members l.crossing.members;
  sorted : is_set l.marks.numbers ≡ true;
  bound : l.crossing.bound ≡ l.fn.crossing.bound;
}

abbrev pub decreases-loop-place : goal.decreases-loop-place
decreases-loop-place l = length l.crossing.members
