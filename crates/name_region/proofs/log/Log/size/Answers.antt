-- The texts fill the block.
use Rattle.std.proofs.Common.{ap, arith}
use Rattle.std.specs.List.{sum_by}
use Rattle.name_region.specs.Log.{Written, text_len}
use Rattle.name_region.proofs.LogLaws.{size-stored_in}
use Rattle.name_region.proofs.log.Log.size.Goals as goal

pub returns : goal.returns
returns c = let i = c.self.inside in omega (arith, c.len.ensures, i.block.ok, size-stored_in 0 i.records.items i.block.items c.self.invariant.ends, ap (λ (w : Written). sum_by text_len w.stored) c.self.view_is)
