use Rattle.std.proofs.Common.{◌∙◌}
use Rattle.row_table.proofs.TableLaws.{least, table_of}
use Rattle.row_table.proofs.table.Table.free_number.Goals as goal

pub returns : goal.returns
returns g c = let table = table_of c.self.invariant c.self.view_is in record { number = c.free_number.ensures ∙ least table; kept = table.held }
