use Rattle.std.proofs.Common.{◌≡◌, ◌<◌, Bool, false, replicate, length, List, ◌∙◌, ap, arith, length-set}
use Rattle.std.proofs.lemmas.List.{length-replicate}
use Rattle.fsrm_model.specs.declared.row.Capacity.{Capacity}
use Rattle.storage_reports.specs.Marks.{is_marked}
use Rattle.storage_reports.proofs.MarkLaws.{all_below, marked_none, marked_next, none_marked}
use Rattle.storage_reports.proofs.below.all_marked.Goals as goal

pub loop-number-init : goal.loop-number-init
loop-number-init c =
    let items : c.in_ok-marks.marks.items ≡ replicate c.args.tree.now.size.nodes false = c.in_ok-marks.ensures ∙ ap (λ (K : Capacity). replicate K.nodes false) c.capacity-nodes.ensures.size in
    record {
      marked = marked_none c.args.tree.now.nodes c.in_ok-marks.marks.items (λ n. ap (λ (ms : List Bool). is_marked ms n) items ∙ none_marked c.args.tree.now.size.nodes n);
      len = ap length items ∙ length-replicate c.args.tree.now.size.nodes false;
    }

pub loop-number-preserved : goal.loop-number-preserved
loop-number-preserved c =
    let n = c.loop-number.number in
    let low : n < c.args.tree.now.size.nodes = omega (arith, c.loop-number-test.true, ap (λ (K : Capacity). K.nodes) c.capacity-nodes.ensures.size) in
    record {
      marked = marked_next c.args.tree.now.nodes c.loop-number.marks.items n c.live.result (omega (arith, low, c.loop-number.invariant.len)) c.live.ensures c.loop-number.invariant.marked;
      len = length-set c.loop-number.marks.items n c.live.result ∙ c.loop-number.invariant.len;
    }

pub returns-clause-marks : goal.returns-clause-marks
returns-clause-marks c =
    all_below c.args.tree.now.size c.args.tree.now.nodes c.requires.volume c.loop-number.marks.items c.loop-number.number
    (omega (arith, c.loop-number-test.false, ap (λ (K : Capacity). K.nodes) c.capacity-nodes.ensures.size)) c.loop-number.invariant.marked
