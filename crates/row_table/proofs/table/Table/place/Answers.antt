use Rattle.std.proofs.Common.{arith}
use Rattle.row_table.proofs.TableLaws.{placed, table_of}
use Rattle.row_table.proofs.table.Table.place.Goals as goal

pub returns : goal.returns
returns g c =
    let table = table_of c.self.invariant c.self.view_is in
    record { place = placed table c.args.number c.place.result c.place.ensures; few = omega (arith, table.held.few, table.held.most_room) }
