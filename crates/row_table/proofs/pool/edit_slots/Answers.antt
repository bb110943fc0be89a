use Rattle.std.proofs.Common.{sym, ap, ◌∙◌}
use Rattle.std.proofs.lemmas.List.Edits.{map_over_more}
use Rattle.std.specs.Prelude.{option_map, slice_set}
use Rattle.row_table.proofs.pool.edit_slots.Goals as goal

pub loop-slot-preserved : goal.loop-slot-preserved
loop-slot-preserved g c =
    let f = option_map (g.E.Edit.edited c.args.edit.now) in
    let slot = c.index-slots-slot.result in
    ap (slice_set c.loop-slot.slots c.loop-slot.slot) (c.edit_slot.ensures.edited ∙ ap f (sym c.index-slots-slot.is))
    ∙ map_over_more f c.args.slots.now c.loop-slot.slots c.loop-slot.slot slot c.loop-slot-test.true c.loop-slot.invariant c.index-slots-slot.is
