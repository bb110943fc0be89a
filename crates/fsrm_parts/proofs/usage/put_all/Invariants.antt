use Rattle.std.proofs.Common.{◌≡◌, ◌+◌, ◌++◌, take}
use Rattle.std.specs.Prelude.{sum_by}
use Rattle.rescan.specs.Visits.{folders_among, space_of}
use Rattle.fsrm_parts.proofs.usage.put_all.Given as goal

abbrev pub invariant-loop-place : goal.invariant-loop-place
invariant-loop-place g l = record {
  sum : l.bytes ≡ sum_by (space_of l.tree.size l.tree.nodes) (take l.place l.siblings);
  folders : l.pending.items ≡ l.fn.pending.items ++ folders_among l.tree.nodes (take l.place l.siblings);
  looks : l.steps ≡ l.fn.steps + l.place;
}
