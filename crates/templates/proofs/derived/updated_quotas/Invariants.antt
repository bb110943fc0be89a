use Rattle.std.proofs.Common.{◌≡◌, ◌++◌, drop}
use Rattle.std.specs.Prelude.{filter, map}
use Rattle.fsrm_model.specs.objects.Templates.{as_template, is_reached}
use Rattle.templates.specs.Reached.{has_thresholds, stand_apart, whole}
use Rattle.templates.proofs.derived.updated_quotas.Given as goal

-- those of the quotas from this place on are still to come
abbrev pub invariant-loop-place : goal.invariant-loop-place
invariant-loop-place l =
    let p = is_reached l.mode l.old in
    record {
      made : map (whole l.new.thresholds) l.rows ++ map (as_template l.new) (filter p (drop l.place l.objects.quotas)) ≡ map (as_template l.new) (filter p l.objects.quotas);
      alike : map stand_apart l.rows ++ map (has_thresholds l.new) (filter p (drop l.place l.objects.quotas)) ≡ map (has_thresholds l.new) (filter p l.objects.quotas);
    }
