use Rattle.std.proofs.Common.{◌≡◌, ◌+◌}
use Rattle.block_list.specs.Runs.{start_of}
use Rattle.block_list.proofs.list.BlockList.index_of.Given as goal

abbrev pub invariant-loop-run : goal.invariant-loop-run
invariant-loop-run g l = l.index ≡ start_of l.self.runs l.run + l.fn.place.offset
