use Rattle.std.proofs.Common.{◌≡◌, ◌+◌}
use Rattle.block_list.specs.Runs.{start_of}
use Rattle.node_order.proofs.segments.between.Given as goal

abbrev pub invariant-loop-run : goal.invariant-loop-run
invariant-loop-run l = start_of l.order.runs l.first.run + l.count ≡ start_of l.order.runs l.run + l.fn.end.offset
