use Rattle.std.proofs.Common.{◌≡◌, ◌+◌, ◌<◌, ◌≤◌, ◌++◌, List, Some, length, slice_get, drop, set, refl, ap, sym, ◌∙◌, subst, arith}
use Rattle.std.proofs.lemmas.List.{drop_all, length-map, set-get_or}
use Rattle.std.proofs.lemmas.Option.{get_or_from_slice_get, slice_get-map}
use Rattle.std.specs.List.{AllByRecursion}
use Rattle.std.specs.Option.{option_copied_mut}
use Rattle.std.specs.Prelude.{map, option_map}
use Rattle.fsrm_base.specs.Keyed.{has_row}
use Rattle.fsrm_base.proofs.SortedRows.{there}
use Rattle.fsrm_model.specs.declared.row.Threshold.{Threshold}
use Rattle.fsrm_model.specs.objects.Quota.{folder_of}
use Rattle.fsrm_model.specs.objects.Runs.{entry_of}
use Rattle.fsrm_model.specs.values.Limits.{most_entries}
use Rattle.fsrm_model.proofs.thresholds.RunLaws.{few_entries}
use Rattle.templates.specs.declared.reached.Was.{Was}
use Rattle.templates.specs.Reached.{whole}
use Rattle.templates.proofs.ReachedLaws.{whole_folder}
use Rattle.templates.proofs.UpdateLaws.{left_from, lent_mut}
use Rattle.thresholds.specs.Settled.{Settles}
use Rattle.fsrm_parts.specs.Updated.{updated_acts, HasNow}
use Rattle.fsrm_parts.proofs.settling.SettledRows.{RowsSettled, row_there, rows_begun, rows_done, rows_next, same_row}
use Rattle.fsrm_parts.proofs.updates.settle_rows.Goals as goal

pub loop-place-init : goal.loop-place-init
loop-place-init c = record {
  settled = rows_begun c.args.usage.now c.args.run_limit c.args.moment c.args.marks.now c.args.objects.now (map (whole c.args.thresholds.now) c.args.rows.now) c.requires.log c.requires.marked c.requires.there c.requires.ascending c.requires.orderly;
  now = c.requires.now;
  sorted = c.requires.sorted;
  rows = refl;
  apart = refl;
}

pub unwrap-was-requires : goal.unwrap-was-requires
unwrap-was-requires c =
    let within : c.loop-place.place < length c.loop-place.rows =
    omega (arith, c.len-place-end.ensures, ap length c.loop-place.invariant.rows, c.loop-place-test.true) in
    let f = there c.loop-place.rows c.loop-place.place within in
    lent_mut c.get_mut.result f.row (sym f.is ∙ sym c.get_mut.ensures.value)

pub settle_row-requires : goal.settle_row-requires
settle_row-requires c =
    let apart = c.args.thresholds.now in
    let all = map (whole apart) c.args.rows.now in
    let k = c.loop-place.place in
    let w = c.unwrap-was.result.now in
    let inv = c.loop-place.invariant in
    let read : slice_get c.loop-place.rows k ≡ Some w = sym c.get_mut.ensures.value ∙ ap option_copied_mut c.unwrap-was.ensures in
    let at : slice_get all k ≡ Some (whole apart w) =
    ap (λ (ws : List Was). slice_get (map (whole apart) ws) k) (sym inv.rows) ∙ (slice_get-map (whole apart) c.loop-place.rows k ∙ ap (option_map (whole apart)) read) in
    let rest = left_from all k (whole apart w) at in
    let settled = subst (RowsSettled c.args.usage.now c.args.run_limit c.args.moment c.args.marks.now c.loop-place.marks c.args.objects.now c.loop-place.objects all) rest inv.settled in
    let now = subst (AllByRecursion (HasNow apart c.args.objects.now.quotas)) rest inv.now in
    let same = same_row c.args.usage.now c.args.run_limit c.args.moment c.args.marks.now c.loop-place.marks c.loop-place.marks c.args.objects.now c.loop-place.objects c.loop-place.objects all (drop (k + 1) all) (whole apart w) settled in
    record {
      orderly = inv.settled.orderly_now;
      marked = inv.settled.settles.there;
      sorted = inv.sorted;
      log = subst (λ n. n ≤ most_entries) (sym (ap length inv.settled.settles.log)) (few_entries (c.args.marks.now.log ++ map (entry_of c.args.moment) inv.settled.acts));
      there = ap (λ n. has_row folder_of n c.loop-place.objects.quotas) (sym (whole_folder apart w))
          ∙ row_there c.args.usage.now c.args.run_limit c.args.moment c.args.marks.now c.loop-place.marks c.loop-place.marks c.args.objects.now c.loop-place.objects c.loop-place.objects all (drop (k + 1) all) (whole apart w) settled;
      now = subst (λ (ts : List Threshold). HasNow ts c.loop-place.objects.quotas (whole ts w)) (sym inv.apart) (λ quota found. now.0 quota (sym same ∙ found));
    }

pub loop-place-preserved : goal.loop-place-preserved
loop-place-preserved c =
    let apart = c.args.thresholds.now in
    let all = map (whole apart) c.args.rows.now in
    let k = c.loop-place.place in
    let w = c.unwrap-was.result.now in
    let inv = c.loop-place.invariant in
    let read : slice_get c.loop-place.rows k ≡ Some w = sym c.get_mut.ensures.value ∙ ap option_copied_mut c.unwrap-was.ensures in
    let at : slice_get all k ≡ Some (whole apart w) =
    ap (λ (ws : List Was). slice_get (map (whole apart) ws) k) (sym inv.rows) ∙ (slice_get-map (whole apart) c.loop-place.rows k ∙ ap (option_map (whole apart)) read) in
    let rest = left_from all k (whole apart w) at in
    let row = whole apart w in
    record {
      settled = rows_next c.args.usage.now c.args.run_limit c.args.moment c.args.marks.now c.loop-place.marks c.settle_row.new.marks c.args.objects.now c.loop-place.objects c.settle_row.new.objects all (drop (k + 1) all) row
          (subst (RowsSettled c.args.usage.now c.args.run_limit c.args.moment c.args.marks.now c.loop-place.marks c.args.objects.now c.loop-place.objects all) rest inv.settled)
          _ refl
          (subst (λ (ts : List Threshold). Settles c.loop-place.marks c.settle_row.new.marks c.loop-place.objects c.settle_row.new.objects c.args.moment (updated_acts c.loop-place.objects c.args.usage.now c.args.run_limit c.args.moment (whole ts w))) inv.apart c.settle_row.ensures.settled);
      now = (subst (AllByRecursion (HasNow apart c.args.objects.now.quotas)) rest inv.now).1;
      sorted = c.settle_row.ensures.sorted;
      rows = ap (set c.loop-place.rows k) (c.settle_row.ensures.stays ∙ sym (get_or_from_slice_get c.loop-place.rows k w w read)) ∙ (set-get_or c.loop-place.rows k w ∙ inv.rows);
      apart = c.settle_row.ensures.stay ∙ inv.apart;
    }

pub returns-clause-settled : goal.returns-clause-settled
returns-clause-settled c =
    let all = map (whole c.args.thresholds.now) c.args.rows.now in
    let k = c.loop-place.place in
    let past = drop_all k all (omega (arith, length-map c.args.rows.now (whole c.args.thresholds.now), c.len-place-end.ensures, c.loop-place-test.false)) in
    rows_done c.args.usage.now c.args.run_limit c.args.moment c.args.marks.now c.loop-place.marks c.args.objects.now c.loop-place.objects all (drop k all) c.loop-place.invariant.settled past

pub returns-clause-sorted : goal.returns-clause-sorted
returns-clause-sorted c = c.loop-place.invariant.sorted
