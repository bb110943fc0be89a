use Rattle.std.proofs.Common.{◌≡◌, length}
use Rattle.fsrm_model.specs.commands.ScreenWork.{may_be_taken}
use Rattle.fsrm_parts.proofs.group_lists.may_be_taken.Given as goal

abbrev pub invariant-loop-number : goal.invariant-loop-number
invariant-loop-number l = may_be_taken l.fn.removed l.groups ≡ may_be_taken l.rest l.groups

abbrev pub decreases-loop-number : goal.decreases-loop-number
decreases-loop-number l = length l.rest
