use Rattle.row_table.proofs.OrderLaws.{absent_too, placed}
use Rattle.row_table.proofs.order.Order.place.Goals as goal

pub returns-in-Ok : goal.returns-in-Ok
returns-in-Ok c =
    let o = c.self.inside in
    let at = rw c.deref.ensures.value at c.in-Ok.ensures.found in
    rw (c.place_among.ensures, ← c.self.view_is) (placed o.gone o.entries.items c.args.number c.in-Ok.place c.self.invariant.ascending c.self.invariant.there at)

pub returns-in-Err : goal.returns-in-Err
returns-in-Err c =
    let o = c.self.inside in
    let absent = rw c.deref.ensures.value at c.in-Err.ensures.free.absent in
    rw (← c.self.view_is) (absent_too o.gone o.entries.items c.args.number c.self.invariant.ascending c.self.invariant.there absent)
