use Rattle.std.proofs.Common.{◌≤◌, length}
use Rattle.fsrm_outside.proofs.files.filled.Given as goal

abbrev pub invariant-loop : goal.invariant-loop
invariant-loop l = l.done ≤ length l.into
