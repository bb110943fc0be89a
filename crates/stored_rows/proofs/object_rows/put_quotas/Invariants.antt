use Rattle.std.proofs.Common.{◌≡◌, take}
use Rattle.stored_rows.proofs.object_rows.put_quotas.Given as goal

abbrev pub invariant-loop-row : goal.invariant-loop-row
invariant-loop-row l = l.tables ≡ record l.fn.tables { quotas = take l.row-index l.rows }
