use Rattle.std.proofs.Common.{◌+◌, ◌-◌, ◌<◌, ◌≤◌, length}
use Rattle.node_order.specs.Entries.{parent_at}
use Rattle.node_order.proofs.gallop.halve.Given as goal

abbrev pub invariant-loop-size : goal.invariant-loop-size
invariant-loop-size l = record {
  least : l.from ≤ l.low;
  within : l.low + l.size ≤ length l.entries;
  lower : l.from < l.low → parent_at l.entries (l.low - 1) < l.folder;
  other : l.low + l.size < length l.entries → l.folder ≤ parent_at l.entries (l.low + l.size);
}

abbrev pub decreases-loop-size : goal.decreases-loop-size
decreases-loop-size l = l.size
