use Rattle.std.proofs.Common.{◌≡◌, length}
use Rattle.fsrm_base.specs.Numbers.{each_once}
use Rattle.row_rules.proofs.screens.each_once.Given as goal

abbrev pub invariant-loop-number : goal.invariant-loop-number
invariant-loop-number l = each_once l.fn.numbers ≡ each_once l.left

abbrev pub decreases-loop-number : goal.decreases-loop-number
decreases-loop-number l = length l.left
