use Rattle.std.proofs.Common.{◌≡◌, length}
use Rattle.std.specs.Prelude.{filter, map}
use Rattle.fsrm_model.specs.objects.Templates.{is_reached, updated}
use Rattle.templates.specs.Reached.{has_thresholds, stand_apart, whole}
use Rattle.templates.proofs.UpdateLaws.{IsHalfway, with_quotas}
use Rattle.templates.proofs.derived.update.Given as goal

abbrev pub invariant-loop-place : goal.invariant-loop-place
invariant-loop-place l =
    let reached = filter (is_reached l.fn.mode l.old) l.fn.objects.quotas in
    record {
      half : IsHalfway l.new reached (with_quotas l.fn.objects (map (updated l.fn.mode l.old l.new) l.fn.objects.quotas)) l.objects (map (whole l.new.thresholds) l.rows) l.place;
      many : length reached ≡ l.place-end;
      alike : map stand_apart l.rows ≡ map (has_thresholds l.new) reached;
      apart : l.thresholds ≡ l.new.thresholds;
    }
