use Rattle.std.proofs.Common.{◌≡◌, ◌+◌, ◌-◌, length}
use Rattle.block_list.specs.Runs.{start_of}
use Rattle.block_list.proofs.list.BlockList.place_of.Given as goal

abbrev pub invariant-loop-run : goal.invariant-loop-run
invariant-loop-run g l = start_of l.self.runs l.run + l.offset ≡ l.fn.index

abbrev pub decreases-loop-run : goal.decreases-loop-run
decreases-loop-run g l = length l.self.runs - l.run
