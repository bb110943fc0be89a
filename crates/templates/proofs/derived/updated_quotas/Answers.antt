use Rattle.std.proofs.Common.{refl, sym, ◌∙◌, arith}
use Rattle.std.proofs.lemmas.List.{append-nil, drop_all}
use Rattle.std.specs.Prelude.{map}
use Rattle.fsrm_model.specs.objects.Templates.{as_template, is_reached}
use Rattle.templates.specs.Reached.{has_thresholds, stand_apart, whole}
use Rattle.templates.proofs.ReachedLaws.{kept, left_out, passed}
use Rattle.templates.proofs.derived.updated_quotas.Goals.{then-is_reached+in_ok-as_template+in_ok-push, else-is_reached}
use Rattle.templates.proofs.derived.updated_quotas.Goals as goal

pub loop-place-init : goal.loop-place-init
loop-place-init c = record { made = rw c.new-rows.ensures refl; alike = rw c.new-rows.ensures refl }

pub stands_apart-apart-requires : goal.stands_apart-apart-requires
stands_apart-apart-requires c = λ same.
    kept c.args.mode c.args.old.now c.args.new.now c.args.objects.now.quotas c.loop-place.place c.quota_at-quota.result.now (c.requires same) c.quota_at-quota.ensures
    (sym c.is_reached.ensures ∙ c.if-is_reached.true)

pub loop-place-preserved : goal.loop-place-preserved
loop-place-preserved c =
    let new = c.args.new.now in
    let quotas = c.args.objects.now.quotas in
    let place = c.loop-place.place in
    let quota = c.quota_at-quota.result.now in
    let rows = c.loop-place.rows in
    let p = is_reached c.args.mode c.args.old.now in
    let at = c.quota_at-quota.ensures in
    let so_far = c.loop-place.invariant in
    elim c.if-is_reached.branch [
      | then-is_reached+in_ok-as_template+in_ok-push w ↦
          let was = w.in_ok-as_template.field-0 in
          let yes = sym c.is_reached.ensures ∙ w.if-is_reached.true in
          let pushed = w.rows-is ∙ w.in_ok-push.ensures.ok in
          record {
            made = rw pushed (passed (whole new.thresholds) (as_template new) p quotas place quota at rows so_far.made was yes w.in_ok-as_template.ensures.row);
            alike = rw pushed (passed stand_apart (has_thresholds new) p quotas place quota at rows so_far.alike was yes (w.in_ok-as_template.ensures.apart ∙ w.stands_apart-apart.ensures));
          }
      | else-is_reached w ↦
          let no = sym c.is_reached.ensures ∙ w.if-is_reached.false in
          record {
            made = rw w.rows-is (left_out (whole new.thresholds) (as_template new) p quotas place quota at rows so_far.made no);
            alike = rw w.rows-is (left_out stand_apart (has_thresholds new) p quotas place quota at rows so_far.alike no);
          }
    ]

pub returns-clause-made : goal.returns-clause-made
returns-clause-made c =
    let none = drop_all c.loop-place.place c.args.objects.now.quotas (omega (arith, c.quota_count-place-end.ensures.count, c.loop-place-test.false)) in
    sym (append-nil (map (whole c.args.new.now.thresholds) c.loop-place.rows)) ∙ (rw none at c.loop-place.invariant.made)

pub returns-clause-alike : goal.returns-clause-alike
returns-clause-alike c =
    let none = drop_all c.loop-place.place c.args.objects.now.quotas (omega (arith, c.quota_count-place-end.ensures.count, c.loop-place-test.false)) in
    sym (append-nil (map stand_apart c.loop-place.rows)) ∙ (rw none at c.loop-place.invariant.alike)
