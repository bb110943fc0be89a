use Rattle.std.proofs.Common.{◌∙◌}
use Rattle.fsrm_base.proofs.SortedRows.{has_lent}
use Rattle.row_table.proofs.table.Table.has.Goals as goal

pub returns : goal.returns
returns g c = c.is_some.ensures ∙ has_lent g.K.Key.key c.args.number c.args.self.now.rows c.get.result c.get.ensures.row
