use Rattle.std.proofs.Common.{◌<◌, length, get_or, ap, ◌∙◌, arith}
use Rattle.std.proofs.lemmas.Option.{slice_get-get_or}
use Rattle.fsrm_base.specs.Keyed.{is_ascending}
use Rattle.fsrm_model.specs.objects.Thresholds.{percent_of, with_threshold}
use Rattle.fsrm_parts.proofs.tables.ListLaws.{ascending_threshold, one_more}
use Rattle.fsrm_parts.proofs.threshold_lists.add_percents.Goals as goal

pub loop-percent-preserved : goal.loop-percent-preserved
loop-percent-preserved c =
    let percents = c.args.percents.now in
    let k = c.loop-percent.percent-index in
    let within : k < length percents = omega arith in
    let percent = get_or percents k 0 in
    record {
      added = one_more with_threshold c.args.thresholds.now c.loop-percent.thresholds c.place_of.new.thresholds percents k percent (slice_get-get_or percents k 0 within) c.loop-percent.invariant.added c.in_ok-place_of.ensures.with;
      ascending = ap (is_ascending percent_of) c.in_ok-place_of.ensures.with ∙ ascending_threshold c.loop-percent.thresholds percent c.loop-percent.invariant.ascending;
    }
