use Rattle.std.proofs.Common.{◌<◌, ◌^◌, arith, rules}
use Rattle.fsrm_engine.proofs.tables.QueueLaws.{few_queued}
use Rattle.fsrm_engine.proofs.engine.Engine.settings.Goals as goal

pub overflow_cast-result : goal.overflow_cast-result
overflow_cast-result c =
    let p = c.self.inside.parts in
    let few = few_queued p.tree.nodes p.objects.quotas p.scans.queue c.self.invariant.sound.counted.are_quotas c.self.invariant.valid.queue in
    let small : c.count.result < 2 ^ 32 = omega (arith, few, c.count.ensures) in
    search rules
