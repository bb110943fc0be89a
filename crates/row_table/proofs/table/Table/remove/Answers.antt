use Rattle.std.proofs.Common.{◌∙◌, arith}
use Rattle.row_table.proofs.TableLaws.{has_number, is_full, kept_of, row_there, small_at, seen_of, some_held, table_less, table_of, texts_there}
use Rattle.row_table.proofs.table.Table.remove.Goals as goal

pub remove-slot-requires : goal.remove-slot-requires
remove-slot-requires g c = has_number (table_of c.self.invariant c.self.view_is) c.args.number ∙ c.requires

pub take-row-requires-clause-there : goal.take-row-requires-clause-there
take-row-requires-clause-there g c = is_full c.self.invariant c.args.number c.remove-slot.result c.remove-slot.ensures.slot

pub take-row-requires-clause-some : goal.take-row-requires-clause-some
take-row-requires-clause-some g c = some_held (table_of c.self.invariant c.self.view_is) c.args.number c.requires

pub texts-requires : goal.texts-requires
texts-requires g c = small_at c.self.invariant c.args.number c.take-row.result (row_there c.self.invariant c.args.number c.remove-slot.result c.take-row.result c.remove-slot.ensures.slot c.take-row.ensures.row)

pub overflow_sub-self : goal.overflow_sub-self
overflow_sub-self g c = omega (arith, c.texts.ensures, texts_there c.self.invariant c.args.number c.remove-slot.result c.take-row.result c.remove-slot.ensures.slot c.take-row.ensures.row)

pub invariant_of-self : goal.invariant_of-self
invariant_of-self g c =
    let took = c.take-row.ensures in
    let less = table_less (table_of c.self.invariant c.self.view_is) c.args.number c.remove-slot.result c.take-row.result c.take-row.new.self c.remove-slot.ensures.slot took.row took.taken took.held took.room in
    rw (c.remove-slot.ensures.rest, c.texts.ensures) (kept_of less)

pub returns : goal.returns
returns g c =
    let table = table_of c.self.invariant c.self.view_is in
    let took = c.take-row.ensures in
    let less = table_less table c.args.number c.remove-slot.result c.take-row.result c.take-row.new.self c.remove-slot.ensures.slot took.row took.taken took.held took.room in
    record {
      rest = rw c.remove-slot.ensures.rest (seen_of less);
      row = row_there table c.args.number c.remove-slot.result c.take-row.result c.remove-slot.ensures.slot took.row;
    }
