use Rattle.std.specs.Vec.{vec_capacity}
use Rattle.row_table.proofs.OrderLaws.{order_more}
use Rattle.row_table.proofs.order.Order.insert.Goals as goal

pub invariant_of-self : goal.invariant_of-self
invariant_of-self c =
    let o = c.self.inside in
    let free = rw (← c.self.view_is) at c.requires.free in
    let room = rw (← c.self.view_is) at c.requires.room in
    rw c.put.ensures.put
    (order_more o.entries.items o.gone o.room (vec_capacity o.entries) (vec_capacity c.put.new.order) c.args.entry c.self.invariant free room c.requires.small c.put.ensures.capacity)
