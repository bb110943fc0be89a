use Rattle.std.proofs.Common.{◌≡◌, ◌<◌, ◌∙◌, true, false, sym, ap, arith, length-set}
use Rattle.std.proofs.lemmas.List.{get_or_read}
use Rattle.fsrm_model.specs.declared.row.Capacity.{Capacity}
use Rattle.node_table.specs.Views.{seen}
use Rattle.storage_reports.specs.Doubles.{may_double}
use Rattle.storage_reports.specs.Marks.{is_marked}
use Rattle.storage_reports.proofs.CourseLaws.{fewer, looked}
use Rattle.storage_reports.proofs.LeftLaws.{all_left, leaving_marked, leaving_none, leaving_unmarked}
use Rattle.tree_walk.proofs.Shown.{seen_found}
use Rattle.storage_reports.proofs.files.leave_marked.Goals as goal
use Rattle.storage_reports.proofs.files.leave_marked.Goals.{then-index+in_ok-marks, else-index}

pub loop-number-init : goal.loop-number-init
loop-number-init g c = record {
  within = omega arith;
  leaving = leaving_none c.args.tree.now.nodes (may_double c.args.shared.now) c.args.marks.now.items c.requires.there;
  long = c.requires.long;
  looks = omega arith;
}

pub loop-number-preserved : goal.loop-number-preserved
loop-number-preserved g c =
    let K = c.args.tree.now.size in
    let nodes = c.args.tree.now.nodes in
    let v = c.requires.volume in
    let n = c.loop-number.number in
    let test = may_double c.args.shared.now in
    let kept = c.loop-number.invariant in
    let low : n < K.nodes = omega (arith, c.loop-number-test.true, ap (λ (K : Capacity). K.nodes) c.capacity-end.ensures.size) in
    elim c.if-index.branch [
      | then-index+in_ok-marks w ↦
          let view = w.node-node.result in
          let found = seen_found view nodes n w.node-node.ensures.view in
          let on : is_marked c.loop-number.marks.items n ≡ true = sym (get_or_read c.loop-number.marks.items n c.index.result.now (omega (arith, low, kept.long)) c.index.ensures false) ∙ w.if-index.true in
          record {
            within = omega (arith, low);
            leaving = rw w.marks-is (leaving_marked nodes test c.args.marks.now.items c.loop-number.marks.items n (seen view) w.in_ok-marks.field-0 (omega (arith, low, kept.long)) on found w.in_ok-marks.ensures kept.leaving);
            long = rw w.marks-is (length-set c.loop-number.marks.items n w.in_ok-marks.field-0 ∙ kept.long);
            looks = omega (arith, w.steps-is, w.node-node.ensures.count, kept.looks, looked K nodes v n (seen view) found);
          }
      | else-index w ↦
          let off : is_marked c.loop-number.marks.items n ≡ false = sym (get_or_read c.loop-number.marks.items n c.index.result.now (omega (arith, low, kept.long)) c.index.ensures false) ∙ w.if-index.false in
          record {
            within = omega (arith, low);
            leaving = rw w.marks-is (leaving_unmarked nodes test c.args.marks.now.items c.loop-number.marks.items n off kept.leaving);
            long = rw w.marks-is kept.long;
            looks = omega (arith, w.steps-is, kept.looks, fewer K nodes v n);
          }
    ]

pub returns-in_err-marks-clause-looks : goal.returns-in_err-marks-clause-looks
returns-in_err-marks-clause-looks g c =
    let K = c.args.tree.now.size in
    let nodes = c.args.tree.now.nodes in
    let n = c.loop-number.number in
    let view = c.node-node.result in
    omega (arith, c.loop-number.invariant.looks, c.node-node.ensures.count, looked K nodes c.requires.volume n (seen view) (seen_found view nodes n c.node-node.ensures.view))

pub returns-clause-each : goal.returns-clause-each
returns-clause-each g c =
    all_left c.args.tree.now.size c.args.tree.now.nodes c.requires.volume (may_double c.args.shared.now) c.args.marks.now.items c.loop-number.marks.items c.loop-number.number
    (omega (arith, c.loop-number-test.false, ap (λ (K : Capacity). K.nodes) c.capacity-end.ensures.size))
    c.loop-number.invariant.leaving
