use Rattle.std.proofs.Common.{◌*◌}
use Rattle.name_index.proofs.LeastLaws.{IsLeastOf}
use Rattle.name_index.proofs.bucket.least.Given as goal

abbrev pub invariant-loop-row : goal.invariant-loop-row
invariant-loop-row l = IsLeastOf l.slots l.hash (3 * l.row) l.least
