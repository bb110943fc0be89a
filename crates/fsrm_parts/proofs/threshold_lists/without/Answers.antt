use Rattle.std.proofs.Common.{◌≡◌, Some, slice_get, refl, sym, ◌∙◌}
use Rattle.std.proofs.lemmas.Option.{slice_get_read}
use Rattle.fsrm_base.specs.Numbers.{is_in}
use Rattle.fsrm_parts.proofs.tables.ListLaws.{one_gone, one_kept}
use Rattle.fsrm_parts.proofs.threshold_lists.without.Goals.{then-not-contains+in_ok-copy+in_ok-push, else-not-contains}
use Rattle.fsrm_parts.proofs.threshold_lists.without.Goals as goal

pub loop-threshold-preserved : goal.loop-threshold-preserved
loop-threshold-preserved c =
    let removed = c.args.removed.now in
    let thresholds = c.args.thresholds.now in
    let k = c.loop-threshold.threshold-index in
    let t = c.threshold-item.result in
    let at : slice_get thresholds k ≡ Some t = slice_get_read thresholds _ k t refl c.loop-threshold-test.true c.threshold-item.is in
    let among : is_in removed t.percent ≡ c.contains.result = sym c.contains.ensures.value in
    elim c.if-not-contains.branch [
      | then-not-contains+in_ok-copy+in_ok-push w ↦
          w.kept-is ∙ one_kept removed thresholds c.loop-threshold.kept w.push.new.self k t w.in_ok-copy.field-0 at c.loop-threshold.invariant (among ∙ w.if-not-contains.true) w.in_ok-push.ensures.ok w.in_ok-copy.ensures
      | else-not-contains w ↦ w.kept-is ∙ one_gone removed thresholds c.loop-threshold.kept k t at c.loop-threshold.invariant (among ∙ w.if-not-contains.false)
    ]
