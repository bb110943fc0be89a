use Rattle.std.proofs.Common.{◌≡◌, length}
use Rattle.fsrm_base.specs.Numbers.{each_once}
use Rattle.fsrm_parts.proofs.threshold_lists.each_once.Given as goal

abbrev pub invariant-loop-percent : goal.invariant-loop-percent
invariant-loop-percent l = each_once l.fn.percents ≡ each_once l.rest

abbrev pub decreases-loop-percent : goal.decreases-loop-percent
decreases-loop-percent l = length l.rest
