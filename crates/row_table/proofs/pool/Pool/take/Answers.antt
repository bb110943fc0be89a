use Rattle.std.proofs.Common.{◌∷◌, [], length, length-append, ap, arith}
use Rattle.std.proofs.lemmas.List.{length-set}
use Rattle.std.specs.Vec.{vec_capacity}
use Rattle.fsrm_base.proofs.Look.{some_row}
use Rattle.row_table.specs.Pooled.{in_slot}
use Rattle.row_table.proofs.PoolLaws.{pool_taken}
use Rattle.row_table.proofs.pool.Pool.take.Goals as goal

pub unwrap-requires : goal.unwrap-requires
unwrap-requires g c =
    let k = c.self.invariant in
    let some = rw (← c.self.view_is) at c.requires.some in
    c.push.ensures.succeeds (omega (arith, some, k.fewer, k.few, k.free_fit, c.self.inside.free.ok.0))

pub invariant_of-self : goal.invariant_of-self
invariant_of-self g c =
    let some = rw (← c.self.view_is) at c.requires.some in
    let f = some_row (in_slot c.self.inside.slots.items c.args.slot) (rw (← c.self.view_is) at c.requires.there) in
    rw (c.take.ensures.after, rw c.unwrap.ensures at c.push.ensures.items)
    (pool_taken c.self.invariant c.args.slot (vec_capacity c.push.new.self) f.row f.is (omega (arith, some)) c.push.ensures.capacity)

pub returns-clause-held : goal.returns-clause-held
returns-clause-held g c =
    let some = rw (← c.self.view_is) at c.requires.some in
    let more = rw c.unwrap.ensures at c.push.ensures.items in
    rw (← c.self.view_is)
    (omega (arith, some, ap length more, length-append c.self.inside.free.items (c.args.slot ∷ []), length-set c.self.inside.slots.items c.args.slot c.take.new.self))
