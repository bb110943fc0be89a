use Rattle.row_table.proofs.TableLaws.{table_of, texts_within}
use Rattle.row_table.proofs.table.Table.texts.Goals as goal

pub returns : goal.returns
returns g c = let table = table_of c.self.invariant c.self.view_is in record { sum = table.texts_are; most = texts_within table; kept = table.held }
