use Rattle.std.proofs.Common.{◌≡◌, ◌+◌, true, false, length, sym, ◌∙◌, ap, subst, arith}
use Rattle.fsrm_base.specs.Keyed.{has_row}
use Rattle.fsrm_model.specs.nodes.Tree.{number}
use Rattle.number_set.specs.Numbers.{Numbers}
use Rattle.volume_tree.specs.Kept.{rows_of}
use Rattle.volume_tree.proofs.slotted.HoleLaws.{AreBelow, no_holes, hole_more, row_more, holes_below}
use Rattle.volume_tree.proofs.slots.holes_in.Goals.{then-not-is_there, else-not-is_there}
use Rattle.volume_tree.proofs.slots.holes_in.Goals as goal

pub loop-number-init : goal.loop-number-init
loop-number-init c =
    let rows = rows_of c.args.slots.now.slots in
    record {
      holes = subst (AreBelow rows 0) (sym (ap (λ (s : Numbers). s.members) c.in_ok-holes.ensures)) (no_holes rows);
      bound = ap (λ (s : Numbers). s.bound) c.in_ok-holes.ensures;
    }

pub loop-number-preserved : goal.loop-number-preserved
loop-number-preserved c =
    let rows = rows_of c.args.slots.now.slots in
    let k = c.loop-number.number in
    let before = c.loop-number.invariant in
    elim c.if-not-is_there.branch [
      | then-not-is_there w ↦
          let free : has_row number k rows ≡ false = sym w.if-not-is_there.ensures in
          let made = w.holes-is ∙ w.insert.ensures in
          record {
            holes = subst (AreBelow rows (k + 1)) (sym (ap (λ (s : Numbers). s.members) made)) (hole_more rows k c.loop-number.holes.members before.holes free);
            bound = ap (λ (s : Numbers). s.bound) made ∙ before.bound;
          }
      | else-not-is_there w ↦
          let has : has_row number k rows ≡ true = sym w.if-not-is_there.ensures in
          record {
            holes = subst (AreBelow rows (k + 1)) (sym (ap (λ (s : Numbers). s.members) w.holes-is)) (row_more rows k c.loop-number.holes.members before.holes has);
            bound = ap (λ (s : Numbers). s.bound) w.holes-is ∙ before.bound;
          }
    ]

pub returns-clause-holes : goal.returns-clause-holes
returns-clause-holes c =
    let holes = c.loop-number.invariant.holes in
    let end : c.loop-number.number ≡ length c.args.slots.now.slots = omega (arith, c.len-number-end.ensures.len) in
    holes_below c.args.slots.now.slots c.loop-number.number c.loop-number.holes.members end holes
