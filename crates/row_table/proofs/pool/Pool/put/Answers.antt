use Rattle.std.proofs.Common.{Some, arith}
use Rattle.row_table.proofs.PoolLaws.{last_slot, pool_put}
use Rattle.row_table.proofs.pool.Pool.put.Goals as goal

pub index_mut-requires : goal.index_mut-requires
index_mut-requires g c =
    let last = last_slot c.self.invariant c.pop.new.self.items c.in-Some.slot (rw c.in-Some.is at c.pop.ensures.items) in
    omega (arith, last.0, c.self.inside.slots.ok.0)

pub invariant_of-self : goal.invariant_of-self
invariant_of-self g c =
    rw c.pop.ensures.capacity (pool_put c.self.invariant c.pop.new.self.items c.in-Some.slot (Some c.args.row) (rw c.in-Some.is at c.pop.ensures.items))

pub returns-in-Some-clause-small : goal.returns-in-Some-clause-small
returns-in-Some-clause-small g c =
    let last = last_slot c.self.invariant c.pop.new.self.items c.in-Some.slot (rw c.in-Some.is at c.pop.ensures.items) in
    omega (arith, last.0, c.self.invariant.few, c.self.invariant.small)
