use Rattle.std.proofs.Common.{◌≡◌, Some, slice_get, refl, ap, ◌∙◌}
use Rattle.std.proofs.lemmas.Option.{slice_get_read}
use Rattle.fsrm_base.specs.Keyed.{is_ascending}
use Rattle.fsrm_model.specs.objects.Thresholds.{percent_of, with_notice}
use Rattle.fsrm_parts.proofs.tables.ListLaws.{ascending_notice, one_more}
use Rattle.fsrm_parts.proofs.threshold_lists.add_notices.Goals as goal

pub loop-notice-preserved : goal.loop-notice-preserved
loop-notice-preserved c =
    let notices = c.args.notices.now in
    let k = c.loop-notice.notice-index in
    let notice = c.notice-item.result in
    let at : slice_get notices k ≡ Some notice = slice_get_read notices _ k notice refl c.loop-notice-test.true c.notice-item.is in
    record {
      added = one_more with_notice c.args.thresholds.now c.loop-notice.thresholds c.add_notice.new.thresholds notices k notice at c.loop-notice.invariant.added c.in_ok-add_notice.ensures;
      ascending = ap (is_ascending percent_of) c.in_ok-add_notice.ensures ∙ ascending_notice c.loop-notice.thresholds notice c.loop-notice.invariant.ascending;
    }
