use Rattle.std.proofs.Common.{◌≡◌, ◌+◌, ◌<◌, List, length, Some, rules, sym, ◌∙◌, ap, subst, arith}
use Rattle.std.proofs.lemmas.List.{length-map, map-set}
use Rattle.std.proofs.lemmas.Option.{get_or_from_slice_get, same_Some, slice_get-map}
use Rattle.std.proofs.Math.Seq.{map-set_same}
use Rattle.std.specs.Option.{option_copied_mut}
use Rattle.std.specs.Prelude.{filter, map, option_map, slice_get}
use Rattle.fsrm_base.specs.Keyed.{row_of}
use Rattle.fsrm_base.proofs.Look.{found_has}
use Rattle.fsrm_base.proofs.SortedRows.{there}
use Rattle.fsrm_model.specs.declared.row.QuotaRow.{QuotaRow}
use Rattle.fsrm_model.specs.declared.row.Threshold.{Threshold}
use Rattle.fsrm_model.specs.objects.Quota.{folder_of}
use Rattle.fsrm_model.specs.objects.Templates.{as_template, is_reached, updated}
use Rattle.fsrm_model.specs.objects.Thresholds.{are_too_many}
use Rattle.fsrm_model.proofs.valid.TemplatesKept.{template_parts}
use Rattle.fsrm_objects.specs.Tables.{has_short_texts, with_other}
use Rattle.templates.specs.Reached.{stand_apart, whole}
use Rattle.templates.proofs.PartLaws.{small_thresholds}
use Rattle.templates.proofs.ReachedLaws.{stood_apart, whole_folder}
use Rattle.templates.proofs.UpdateLaws.{IsHalfway, at_end, at_start, lent_mut, long, next, with_quotas}
use Rattle.templates.proofs.derived.update.Goals as goal

pub loop-place-init : goal.loop-place-init
loop-place-init c =
    let reached = filter (is_reached c.args.mode c.args.old.now) c.args.objects.now.quotas in
    let whole_rows = whole c.args.new.now.thresholds in
    record {
      half = at_start c.args.mode c.args.old.now c.args.new.now c.args.objects.now c.updated_quotas.ensures.ascending _ c.in_ok-rows.ensures.made;
      many = omega (arith, c.len-place-end.ensures, length-map c.in_ok-rows.rows whole_rows, ap length c.in_ok-rows.ensures.made, length-map reached (as_template c.args.new.now));
      alike = c.in_ok-rows.ensures.alike;
      apart = search rules;
    }

pub unwrap-was-requires : goal.unwrap-was-requires
unwrap-was-requires c =
    let within : c.loop-place.place < length c.loop-place.rows =
    omega (arith, long _ _ _ _ _ _ c.loop-place.invariant.half, length-map c.loop-place.rows (whole c.args.new.now.thresholds), c.loop-place.invariant.many, c.loop-place-test.true) in
    let f = there c.loop-place.rows c.loop-place.place within in
    lent_mut c.get_mut.result f.row (sym f.is ∙ sym c.get_mut.ensures.value)

pub exchange-requires : goal.exchange-requires
exchange-requires c =
    let new = c.args.new.now in
    let rows = c.loop-place.rows in
    let place = c.loop-place.place in
    let quotas = c.loop-place.objects.quotas in
    let w = c.unwrap-was.result.now in
    let read : slice_get rows place ≡ Some w = sym c.get_mut.ensures.value ∙ ap option_copied_mut c.unwrap-was.ensures in
    let one = next _ _ _ _ _ _ c.loop-place.invariant.half (whole new.thresholds w) (slice_get-map (whole new.thresholds) rows place ∙ ap (option_map (whole new.thresholds)) read) in
    let found : row_of folder_of w.row.folder quotas ≡ Some one.was = ap (λ k. row_of folder_of k quotas) (sym (whole_folder new.thresholds w)) ∙ one.there in
    let is : whole c.loop-place.thresholds w ≡ as_template new one.was = ap (λ (ts : List Threshold). whole ts w) c.loop-place.invariant.apart ∙ one.is in
    let small = small_thresholds new.thresholds (template_parts new c.requires.new).thresholds in
    record {
      there = found_has folder_of w.row.folder quotas one.was found;
      short = ap (λ (row : QuotaRow). are_too_many row.thresholds) is ∙ small.0;
      texts = ap has_short_texts is ∙ small.1;
      alike = λ same quota at.
          ap (λ (q : QuotaRow). q.thresholds) (same_Some quota one.was (sym at ∙ found))
          ∙ (stood_apart new rows _ place w one.was c.requires.new c.loop-place.invariant.alike read one.at same ∙ sym c.loop-place.invariant.apart);
    }

pub loop-place-preserved : goal.loop-place-preserved
loop-place-preserved c =
    let new = c.args.new.now in
    let rows = c.loop-place.rows in
    let place = c.loop-place.place in
    let now = c.loop-place.objects in
    let w = c.unwrap-was.result.now in
    let then = c.exchange.new.was in
    let all = whole new.thresholds in
    let reached = filter (is_reached c.args.mode c.args.old.now) c.args.objects.now.quotas in
    let after = with_quotas c.args.objects.now (map (updated c.args.mode c.args.old.now new) c.args.objects.now.quotas) in
    let apart = c.loop-place.invariant.apart in
    let read : slice_get rows place ≡ Some w = sym c.get_mut.ensures.value ∙ ap option_copied_mut c.unwrap-was.ensures in
    let one = next _ _ _ _ _ _ c.loop-place.invariant.half (all w) (slice_get-map all rows place ∙ ap (option_map all) read) in
    let put = c.exchange.ensures.put ∙ ap (λ (ts : List Threshold). with_other now (whole ts w)) apart in
    let replaced : row_of folder_of (all w).folder now.quotas ≡ Some (all then) =
    ap (λ k. row_of folder_of k now.quotas) (whole_folder new.thresholds w) ∙ (c.exchange.ensures.replaced ∙ ap (λ (ts : List Threshold). Some (whole ts then)) apart) in
    record {
      half = subst (λ (qs : List QuotaRow). IsHalfway new reached after c.exchange.new.objects qs (place + 1)) (sym (map-set all rows place then)) (one.done _ _ put replaced);
      many = c.loop-place.invariant.many;
      alike = map-set_same stand_apart rows place then w (c.exchange.ensures.same ∙ sym (ap stand_apart (get_or_from_slice_get rows place w w read))) ∙ c.loop-place.invariant.alike;
      apart = c.exchange.ensures.stay ∙ apart;
    }

pub returns-clause-ok : goal.returns-clause-ok
returns-clause-ok c = (at_end _ _ _ _ _ _ c.loop-place.invariant.half (omega (arith, c.loop-place.invariant.many, c.loop-place-test.false))).0

pub returns-clause-reached : goal.returns-clause-reached
returns-clause-reached c =
    rw c.loop-place.invariant.apart (at_end _ _ _ _ _ _ c.loop-place.invariant.half (omega (arith, c.loop-place.invariant.many, c.loop-place-test.false))).1

pub returns-clause-apart : goal.returns-clause-apart
returns-clause-apart c = c.loop-place.invariant.apart
