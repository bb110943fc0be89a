-- The run stands in the block of its head.
use Rattle.std.proofs.Common.{ap, arith, length}
use Rattle.block_list.proofs.HeadLaws.{known}
use Rattle.block_list.proofs.store.Store.run.Goals as goal

pub overflow_cast-head : goal.overflow_cast-head
overflow_cast-head g c = let i = c.self.inside in let k = known i.most i.heads i.free i.pool c.args.self.now c.args.run c.index-head.result.now c.self.invariant c.self.view_is c.requires c.index-head.ensures in omega (arith, k.small)

pub run_in-requires-clause-block : goal.run_in-requires-clause-block
run_in-requires-clause-block g c = let i = c.self.inside in let k = known i.most i.heads i.free i.pool c.args.self.now c.args.run c.index-head.result.now c.self.invariant c.self.view_is c.requires c.index-head.ensures in omega (arith, k.block, ap length c.deref.ensures.value)
