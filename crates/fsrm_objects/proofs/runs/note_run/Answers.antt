use Rattle.std.proofs.Common.{◌≡◌, Some, sym, ap, ◌∙◌}
use Rattle.std.proofs.lemmas.Option.{same_Some}
use Rattle.std.proofs.lemmas.Result.{IfOk-at_ok}
use Rattle.std.specs.Option.{option_copied_mut}
use Rattle.std.specs.Prelude.{slice_get, slice_set}
use Rattle.fsrm_base.specs.Places.{IsAt}
use Rattle.fsrm_base.proofs.SortedRows.{row_found, set_row}
use Rattle.fsrm_model.specs.objects.Thresholds.{percent_of}
use Rattle.fsrm_objects.specs.Tables.{run_threshold_at}
use Rattle.fsrm_objects.proofs.RunRows.{has_actions, placed}
use Rattle.fsrm_objects.proofs.runs.note_run.Goals as goal

pub unwrap-at-requires : goal.unwrap-at-requires
unwrap-at-requires c =
    placed c.args.thresholds.now c.args.percent c.threshold_place.result (has_actions c.args.thresholds.now c.args.percent c.args.place c.requires.there) (rw c.as_slice.ensures at c.threshold_place.ensures.free)

pub returns : goal.returns
returns c =
    let thresholds = c.args.thresholds.now in
    let at = c.unwrap-at.result in
    let own = c.unwrap-threshold.result.now in
    let found = row_found percent_of c.args.percent thresholds at (rw c.as_slice.ensures at (IfOk-at_ok (IsAt percent_of c.args.percent c.as_slice.result.now) c.unwrap-at.ensures c.threshold_place.ensures.found)) in
    let there : slice_get thresholds at ≡ Some own = sym c.get_mut.ensures.value ∙ ap option_copied_mut c.unwrap-threshold.ensures in
    ap (λ actions. slice_set thresholds at (record own { actions = actions })) c.note_last.ensures
    ∙ set_row percent_of c.args.percent (run_threshold_at c.args.moment c.args.place) thresholds at own c.requires.ascending there
    (ap percent_of (same_Some own found.row (sym there ∙ found.at)) ∙ found.number)
