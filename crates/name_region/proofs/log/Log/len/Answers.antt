-- A text has a record.
use Rattle.std.proofs.Common.{ap, arith, length}
use Rattle.name_region.specs.Log.{Written}
use Rattle.name_region.proofs.LogLaws.{length-stored_in}
use Rattle.name_region.proofs.log.Log.len.Goals as goal

pub returns-clause-len : goal.returns-clause-len
returns-clause-len c = let i = c.self.inside in omega (arith, c.len.ensures, i.records.ok, length-stored_in 0 i.records.items i.block.items, ap (λ (w : Written). length w.stored) c.self.view_is)
