use Rattle.std.proofs.Common.{◌≡◌, take}
use Rattle.stored_rows.proofs.object_rows.put_screens.Given as goal

abbrev pub invariant-loop-row : goal.invariant-loop-row
invariant-loop-row l = l.tables ≡ record l.fn.tables { screens = take l.row-index l.rows }
