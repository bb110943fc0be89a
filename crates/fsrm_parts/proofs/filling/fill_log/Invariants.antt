use Rattle.std.proofs.Common.{◌≡◌, take}
use Rattle.fsrm_parts.proofs.filling.fill_log.Given as goal

abbrev pub invariant-loop-row : goal.invariant-loop-row
invariant-loop-row l = l.marks ≡ record l.fn.marks { log = take l.row-index l.rows }
