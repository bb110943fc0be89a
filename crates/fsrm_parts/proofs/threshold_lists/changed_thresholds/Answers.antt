use Rattle.std.proofs.Common.{ap, ◌∙◌}
use Rattle.fsrm_base.specs.Keyed.{is_ascending}
use Rattle.fsrm_model.specs.objects.Thresholds.{percent_of}
use Rattle.fsrm_parts.proofs.tables.ListLaws.{ascending_kept, ascending_percents}
use Rattle.fsrm_parts.proofs.threshold_lists.changed_thresholds.Goals as goal

pub add_percents-requires : goal.add_percents-requires
add_percents-requires c = ascending_kept c.as_slice.result.now c.args.thresholds.now c.as_slice-2.result.now c.in_ok-changed.changed c.requires c.as_slice-2.ensures c.in_ok-changed.ensures

pub add_notices-requires : goal.add_notices-requires
add_notices-requires c =
    let kept = ascending_kept c.as_slice.result.now c.args.thresholds.now c.as_slice-2.result.now c.in_ok-changed.changed c.requires c.as_slice-2.ensures c.in_ok-changed.ensures in
    ap (is_ascending percent_of) c.in_ok-add_percents.ensures ∙ ascending_percents c.as_slice-3.result.now c.in_ok-changed.changed kept
