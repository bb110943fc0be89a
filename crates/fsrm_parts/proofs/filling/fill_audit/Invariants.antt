use Rattle.std.proofs.Common.{◌≡◌, take}
use Rattle.fsrm_parts.proofs.filling.fill_audit.Given as goal

abbrev pub invariant-loop-row : goal.invariant-loop-row
invariant-loop-row l = l.audit ≡ take l.row-index l.rows
