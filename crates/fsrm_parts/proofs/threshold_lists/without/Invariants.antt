use Rattle.std.proofs.Common.{◌≡◌, take}
use Rattle.fsrm_model.specs.objects.Thresholds.{without_thresholds}
use Rattle.fsrm_parts.proofs.threshold_lists.without.Given as goal

-- of the first of them those are kept that aren't removed
abbrev pub invariant-loop-threshold : goal.invariant-loop-threshold
invariant-loop-threshold l = l.kept ≡ without_thresholds l.removed (take l.threshold-index l.thresholds)
