use Rattle.std.proofs.Common.{◌≡◌, ◌+◌, length}
use Rattle.file_screens.specs.Way.{ApplyAlike}
use Rattle.file_screens.proofs.screening.first_asked.Given as goal

abbrev pub invariant-loop-folder : goal.invariant-loop-folder
invariant-loop-folder g l = record {
  alike : ApplyAlike l.objects l.fn.way l.way;
  looks : l.steps + length l.way ≡ l.fn.steps + length l.fn.way;
}

abbrev pub decreases-loop-folder : goal.decreases-loop-folder
decreases-loop-folder g l = length l.way
