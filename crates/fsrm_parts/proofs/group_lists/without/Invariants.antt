use Rattle.std.proofs.Common.{◌≡◌, ◌++◌, drop}
use Rattle.fsrm_base.specs.Numbers.{without_numbers}
use Rattle.fsrm_parts.proofs.group_lists.without.Given as goal

-- the numbers so far, with what stays of those that are left
abbrev pub invariant-loop-number : goal.invariant-loop-number
invariant-loop-number l = l.kept ++ without_numbers l.removed (drop l.number-index l.numbers) ≡ without_numbers l.removed l.numbers
