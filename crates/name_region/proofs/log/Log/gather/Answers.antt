-- The texts that are left are texts.
use Rattle.std.proofs.Common.{subst, sym, arith}
use Rattle.name_region.specs.Log.{is_kept, stored_in}
use Rattle.name_region.proofs.LogLaws.{AreTexts, texts-filter}
use Rattle.name_region.proofs.log.Log.gather.Goals as goal

pub invariant_of-self : goal.invariant_of-self
invariant_of-self c =
    let i = c.self.inside in
    let inv = c.self.invariant in
    let new = c.gather_texts.ensures in
    record {
      small = inv.small;
      few = inv.few;
      ends = new.ends;
      are_texts = subst AreTexts (sym new.stored) (texts-filter is_kept (stored_in 0 i.records.items i.block.items) inv.are_texts);
      size = omega (arith, inv.size, new.size);
      count = omega (arith, inv.count, new.count);
      block_room = omega (arith, inv.block_room, new.block_capacity);
      records_room = omega (arith, inv.records_room, new.records_capacity);
    }
