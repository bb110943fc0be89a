use Rattle.std.proofs.Common.{◌≡◌, drop}
use Rattle.std.specs.Cmp.Lexicographic.{pointwise}
use Rattle.fsrm_model.specs.objects.Templates.{same_threshold}
use Rattle.templates.proofs.matching.same_thresholds.Given as goal

abbrev pub invariant-loop-place : goal.invariant-loop-place
invariant-loop-place l = pointwise same_threshold l.a l.b ≡ pointwise same_threshold (drop l.place l.a) (drop l.place l.b)
