-- The block has no more bytes than the texts.
use Rattle.std.proofs.Common.{ap, arith, length}
use Rattle.std.specs.List.{sum_by}
use borrow.Author.Tests.{leb-true}
use Rattle.name_region.specs.Log.{Written, text_len}
use Rattle.name_region.proofs.LogLaws.{length-stored_in, size-stored_in}
use Rattle.name_region.proofs.log.Log.has_room.Goals as goal

pub returns-then-len-self-clause-room : goal.returns-then-len-self-clause-room
returns-then-len-self-clause-room c = λ fits.
    let i = c.self.inside in
    let inv = c.self.invariant in
    omega (arith, leb-true _ _ fits, inv.size, c.len-then-len-self.ensures, i.block.ok, size-stored_in 0 i.records.items i.block.items inv.ends, ap (λ (w : Written). sum_by text_len w.stored) c.self.view_is, ap (λ (w : Written). w.room) c.self.view_is)

pub returns-then-len-self-clause-most : goal.returns-then-len-self-clause-most
returns-then-len-self-clause-most c = λ _.
    let i = c.self.inside in
    omega (arith, c.len.ensures, i.records.ok, length-stored_in 0 i.records.items i.block.items, ap (λ (w : Written). length w.stored) c.self.view_is, ap (λ (w : Written). w.most) c.self.view_is)
