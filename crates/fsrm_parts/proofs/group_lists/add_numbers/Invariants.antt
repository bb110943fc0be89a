use Rattle.std.proofs.Common.{◌≡◌, fold, drop}
use Rattle.fsrm_model.specs.commands.ScreenWork.{with_last}
use Rattle.fsrm_parts.proofs.group_lists.add_numbers.Given as goal

-- what is left is still to be added
abbrev pub invariant-loop-n : goal.invariant-loop-n
invariant-loop-n l = fold with_last l.numbers (drop l.n-index l.more) ≡ fold with_last l.fn.numbers l.more
