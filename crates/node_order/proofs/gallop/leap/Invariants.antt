use Rattle.std.proofs.Common.{◌≡◌, ◌+◌, ◌-◌, ◌<◌, ◌≤◌, length}
use Rattle.node_order.specs.Entries.{parent_at}
use Rattle.node_order.proofs.gallop.leap.Given as goal

abbrev pub invariant-loop-step : goal.invariant-loop-step
invariant-loop-step l = record {
  least : l.from ≤ l.low;
  within : l.low ≤ length l.entries;
  step_is : l.step + l.from ≡ l.low + 1;
  lower : l.from < l.low → parent_at l.entries (l.low - 1) < l.folder;
}

abbrev pub decreases-loop-step : goal.decreases-loop-step
decreases-loop-step l = length l.entries - l.low
