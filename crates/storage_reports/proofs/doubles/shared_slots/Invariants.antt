use Rattle.std.proofs.Common.{◌≡◌, ◌+◌, ◌≤◌, length}
use Rattle.storage_reports.specs.Doubles.{Counts}
use Rattle.storage_reports.proofs.doubles.shared_slots.Given as goal

abbrev pub invariant-loop-node : goal.invariant-loop-node
invariant-loop-node g l = record {
  counts : Counts l.slots l.fn.files.files l.files.files l.taken l.shared;
  taken : l.taken.bound ≡ l.slots;
  shared : l.shared.bound ≡ l.slots;
  looks : l.steps + l.files.looks ≤ l.fn.steps + l.fn.files.looks;
  all : l.files.all ≡ l.fn.files.all;
  whole : l.files.whole ≡ l.fn.files.whole;
}

abbrev pub decreases-loop-node : goal.decreases-loop-node
decreases-loop-node g l = length l.files.files
