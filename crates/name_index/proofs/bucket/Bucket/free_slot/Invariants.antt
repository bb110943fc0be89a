use Rattle.std.proofs.Common.{◌<◌}
use Rattle.name_index.proofs.bucket.Bucket.free_slot.Given as goal

abbrev pub invariant-loop-place : goal.invariant-loop-place
invariant-loop-place l = l.free < 15
