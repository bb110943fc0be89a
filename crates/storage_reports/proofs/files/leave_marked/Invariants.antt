use Rattle.std.proofs.Common.{◌≡◌, ◌+◌, ◌≤◌, length}
use Rattle.storage_reports.specs.Doubles.{may_double}
use Rattle.storage_reports.specs.Files.{ahead}
use Rattle.storage_reports.proofs.LeftLaws.{Leaving}
use Rattle.storage_reports.proofs.files.leave_marked.Given as goal

abbrev pub invariant-loop-number : goal.invariant-loop-number
invariant-loop-number g l = record {
  within : l.number ≤ l.tree.size.nodes;
  leaving : Leaving l.tree.nodes (may_double l.shared) l.fn.marks.items l.marks.items l.number;
  long : length l.marks.items ≡ l.tree.size.nodes;
  looks : l.steps + ahead l.number l.tree.nodes ≤ l.fn.steps + ahead 0 l.tree.nodes;
}
