use Rattle.std.proofs.Common.{◌-◌, ◌∙◌, sym, ap, subst, arith}
use Rattle.fsrm_base.specs.Numbers.{is_in}
use Rattle.fsrm_model.specs.nodes.Tree.{chain_in}
use Rattle.volume_tree.specs.Kept.{rows_of}
use Rattle.volume_tree.specs.Sound.{Reaches}
use Rattle.volume_tree.proofs.kept.Reaches.{not_marked, step_up, up}
use Rattle.volume_tree.proofs.rows.is_rooted.Goals as goal

pub loop-left-preserved : goal.loop-left-preserved
loop-left-preserved c =
    let rows = rows_of c.args.slots.now.slots in
    let at = c.loop-left.at in
    let inner = not_marked rows c.args.marks.now at c.requires.marks (sym c.if-is_marked.ensures) in
    record {
      up = λ r. c.loop-left.invariant.up (up rows at inner (subst (Reaches rows) c.parent-at.ensures r));
      same = ap (λ n. is_in (chain_in (c.loop-left.left - 1) rows n) 0) c.parent-at.ensures ∙ (step_up c.loop-left.left rows at inner (omega arith) ∙ c.loop-left.invariant.same);
    }
