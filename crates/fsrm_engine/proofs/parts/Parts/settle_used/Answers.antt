use Rattle.std.proofs.Common.{refl}
use Rattle.fsrm_engine.proofs.settling.MarkLaws.{calm_of, calm_there}
use Rattle.fsrm_parts.proofs.settling.OrderlyQuotas.{quotas_orderly}
use Rattle.fsrm_engine.proofs.tables.RanLaws.{counted_run}
use Rattle.fsrm_engine.proofs.parts.Parts.settle_used.Goals as goal

pub settle-requires-clause-orderly : goal.settle-requires-clause-orderly
settle-requires-clause-orderly c = let p = c.args.self.now in quotas_orderly p.tree.nodes p.objects.quotas c.requires.may.counted.are_quotas

pub settle-requires-clause-marked : goal.settle-requires-clause-marked
settle-requires-clause-marked c = calm_there c.args.self.now (calm_of c.args.self.now c.requires.may.idle)

pub returns-clause-settled : goal.returns-clause-settled
returns-clause-settled c = record { parts_are = refl; settles = c.settle.ensures.settled; set = c.settle.ensures.sorted }

pub returns-clause-counted : goal.returns-clause-counted
returns-clause-counted c = counted_run c.args.self.now _ c.args.moment _ c.requires.may.in_range c.requires.may.counted (returns-clause-settled c)
