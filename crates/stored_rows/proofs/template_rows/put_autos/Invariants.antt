use Rattle.std.proofs.Common.{◌≡◌, take}
use Rattle.stored_rows.proofs.template_rows.put_autos.Given as goal

abbrev pub invariant-loop-row : goal.invariant-loop-row
invariant-loop-row l = l.tables ≡ record l.fn.tables { autos = take l.row-index l.rows }
