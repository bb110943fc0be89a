use Rattle.std.proofs.Common.{◌*◌, ◌≤◌, vec_capacity}
use Rattle.name_index.proofs.DoubleLaws.{AreParted}
use Rattle.name_index.proofs.index.double.Given as goal

abbrev pub invariant-loop-place : goal.invariant-loop-place
invariant-loop-place l = record {
  room : 2 * l.count ≤ vec_capacity l.buckets;
  parted : AreParted l.lead l.initial.buckets.items l.count l.place l.buckets.items;
}
