use Rattle.std.proofs.Common.{arith}
use Rattle.row_table.proofs.TableLaws.{count, has_number, kept_of, seen_of, table_more, table_of, texts_fit}
use Rattle.row_table.proofs.table.Table.insert.Goals as goal

pub overflow_add-self : goal.overflow_add-self
overflow_add-self g c =
    let table = table_of c.self.invariant c.self.view_is in
    omega (arith, texts_fit table 1 (omega (arith, c.requires.room)), g.met.K.Kind.fits, c.requires.small, c.texts.ensures)

pub put-slot-requires : goal.put-slot-requires
put-slot-requires g c = let table = table_of c.self.invariant c.self.view_is in omega (arith, c.requires.room, table.counted, table.room_most)

pub insert-requires-clause-free : goal.insert-requires-clause-free
insert-requires-clause-free g c = rw (has_number (table_of c.self.invariant c.self.view_is) c.number-number.result, c.number-number.ensures) c.requires.free

pub insert-requires-clause-room : goal.insert-requires-clause-room
insert-requires-clause-room g c = let table = table_of c.self.invariant c.self.view_is in omega (arith, c.requires.room, count table, table.room_is)

pub invariant_of-self : goal.invariant_of-self
invariant_of-self g c =
    let put = c.put-slot.ensures in
    let more = table_more (table_of c.self.invariant c.self.view_is) c.put-slot.result c.args.row c.put-slot.new.self c.requires.free c.requires.room c.requires.small put.free put.put put.held put.room in
    rw (c.insert.ensures, c.texts.ensures, c.number-number.ensures) (kept_of more)

pub returns : goal.returns
returns g c =
    let put = c.put-slot.ensures in
    let more = table_more (table_of c.self.invariant c.self.view_is) c.put-slot.result c.args.row c.put-slot.new.self c.requires.free c.requires.room c.requires.small put.free put.put put.held put.room in
    rw (c.insert.ensures, c.number-number.ensures) (seen_of more)
