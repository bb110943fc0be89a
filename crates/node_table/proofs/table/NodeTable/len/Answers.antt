-- There is a slot for each row.
use Rattle.std.proofs.Common.{ap, arith, length}
use Rattle.node_table.specs.Table.{Table}
use Rattle.node_table.proofs.SlotLaws.{length-slots_in}
use Rattle.node_table.proofs.table.NodeTable.len.Goals as goal

pub returns-clause-len : goal.returns-clause-len
returns-clause-len c = let i = c.self.inside in omega (arith, c.len.ensures.len, length-slots_in 0 i.rows.rows i.names, ap (λ (t : Table). length t.slots) c.self.view_is)
