use Rattle.std.proofs.Common.{◌≡◌, ◌+◌, take}
use Rattle.fsrm_model.specs.values.Texts.{threshold_bytes}
use Rattle.fsrm_objects.proofs.texts.left_of_thresholds.Given as goal

abbrev pub invariant-loop-threshold : goal.invariant-loop-threshold
invariant-loop-threshold l = l.left + threshold_bytes (take l.threshold-index l.threshold-items) ≡ l.fn.room
