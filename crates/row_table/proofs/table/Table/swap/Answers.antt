use Rattle.std.proofs.Common.{refl, sym, arith}
use Rattle.row_table.proofs.TableLaws.{is_full, kept_of, row_there, seen_of, slot_there, small_at, table_of, table_with, texts_there, texts_within}
use Rattle.row_table.proofs.table.Table.swap.Goals as goal

pub swap-requires : goal.swap-requires
swap-requires g c = is_full c.self.invariant c.number.result c.note-slot.result (slot_there (table_of c.self.invariant c.self.view_is) c.number.result c.note-slot.result c.note-slot.ensures (rw c.number.ensures c.requires.there))

pub texts-requires : goal.texts-requires
texts-requires g c = small_at c.self.invariant c.number.result c.swap.new.row (row_there c.self.invariant c.number.result c.note-slot.result c.swap.new.row (slot_there (table_of c.self.invariant c.self.view_is) c.number.result c.note-slot.result c.note-slot.ensures (rw c.number.ensures c.requires.there)) c.swap.ensures.taken)

pub overflow_sub-self : goal.overflow_sub-self
overflow_sub-self g c =
    rw c.texts.ensures (texts_there c.self.invariant c.number.result c.note-slot.result c.swap.new.row (slot_there (table_of c.self.invariant c.self.view_is) c.number.result c.note-slot.result c.note-slot.ensures (rw c.number.ensures c.requires.there)) c.swap.ensures.taken)

pub overflow_add-self : goal.overflow_add-self
overflow_add-self g c =
    let put = c.swap.ensures in
    let at = slot_there (table_of c.self.invariant c.self.view_is) c.number.result c.note-slot.result c.note-slot.ensures (rw c.number.ensures c.requires.there) in
    let after = table_with c.self.invariant c.number.result c.note-slot.result c.swap.new.row (λ old. c.args.row.now) c.swap.new.self at put.taken (λ r is. sym c.number.ensures) (λ r is. c.requires.small) put.put put.held put.room in
    omega (arith, texts_within after, g.met.K.Kind.fits, c.texts.ensures, c.texts-bytes.ensures)

pub invariant_of-self : goal.invariant_of-self
invariant_of-self g c =
    let put = c.swap.ensures in
    let at = slot_there (table_of c.self.invariant c.self.view_is) c.number.result c.note-slot.result c.note-slot.ensures (rw c.number.ensures c.requires.there) in
    let after = table_with c.self.invariant c.number.result c.note-slot.result c.swap.new.row (λ old. c.args.row.now) c.swap.new.self at put.taken (λ r is. sym c.number.ensures) (λ r is. c.requires.small) put.put put.held put.room in
    rw (c.texts.ensures, c.texts-bytes.ensures) (kept_of after)

pub returns : goal.returns
returns g c =
    let put = c.swap.ensures in
    let table = table_of c.self.invariant c.self.view_is in
    let at = slot_there table (g.K.Key.key c.args.row.now) c.note-slot.result (rw c.number.ensures at c.note-slot.ensures) c.requires.there in
    record {
      put = seen_of (table_with table (g.K.Key.key c.args.row.now) c.note-slot.result c.swap.new.row (λ old. c.args.row.now) c.swap.new.self at put.taken (λ r is. refl) (λ r is. c.requires.small) put.put put.held put.room);
      taken = row_there table (g.K.Key.key c.args.row.now) c.note-slot.result c.swap.new.row at put.taken;
    }
