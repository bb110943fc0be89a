use Rattle.std.proofs.Common.{◌≡◌, length}
use Rattle.storage_reports.proofs.MarkLaws.{AreMarked}
use Rattle.storage_reports.proofs.below.all_marked.Given as goal

abbrev pub invariant-loop-number : goal.invariant-loop-number
invariant-loop-number l = record {
  marked : AreMarked l.tree.nodes l.marks.items l.number;
  len : length l.marks.items ≡ l.tree.size.nodes;
}
