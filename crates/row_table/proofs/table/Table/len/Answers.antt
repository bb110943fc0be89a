use Rattle.std.proofs.Common.{◌∙◌, sym}
use Rattle.row_table.proofs.TableLaws.{count, table_of}
use Rattle.row_table.proofs.table.Table.len.Goals as goal

pub returns-clause-count : goal.returns-clause-count
returns-clause-count g c = c.len.ensures.count ∙ sym (count (table_of c.self.invariant c.self.view_is))
