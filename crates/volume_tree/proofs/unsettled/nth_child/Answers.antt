use Rattle.std.proofs.Common.{◌≡◌, ◌<◌, None, drop, length, arith, ap, sym, ◌∙◌, subst, refl}
use Rattle.node_order.proofs.SlotRows.{slots_ascend}
use Rattle.volume_tree.specs.Kept.{rows_of}
use Rattle.volume_tree.specs.Siblings.{numbers_after}
use Rattle.volume_tree.specs.Volume.{IsChildAt}
use Rattle.volume_tree.proofs.late.ChildNext.{child_at_rank, many_after, rank_next}
use Rattle.volume_tree.proofs.unsettled.nth_child.Goals as goal

pub loop-rank-init : goal.loop-rank-init
loop-rank-init c = refl

pub loop-rank-preserved : goal.loop-rank-preserved
loop-rank-preserved c =
    let nodes = rows_of c.args.slots.now.slots in
    let below : c.loop-rank._rank < length (numbers_after nodes c.args.folder None) = omega (arith, many_after nodes c.args.folder, c.requires.place) in
    rank_next nodes c.args.folder c.loop-rank.last c.next_child-last.result c.loop-rank._rank c.loop-rank.invariant below c.next_child-last.ensures.some c.next_child-last.ensures.none

pub returns : goal.returns
returns c =
    let nodes = rows_of c.args.slots.now.slots in
    let last : c.loop-rank._rank ≡ c.args.place = omega arith in
    subst (IsChildAt nodes c.args.folder c.args.place) (sym c.unwrap_or.ensures)
    (child_at_rank nodes c.args.folder c.loop-rank.last c.next_child.result c.args.place (slots_ascend c.args.slots.now.slots c.requires.slots) c.requires.place
    (c.loop-rank.invariant ∙ ap (λ r. drop r (numbers_after nodes c.args.folder None)) last) c.next_child.ensures.some c.next_child.ensures.none)
