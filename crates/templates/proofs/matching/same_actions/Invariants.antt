use Rattle.std.proofs.Common.{◌≡◌, drop}
use Rattle.std.specs.Cmp.Lexicographic.{pointwise}
use Rattle.fsrm_model.specs.objects.Templates.{same_action}
use Rattle.templates.proofs.matching.same_actions.Given as goal

abbrev pub invariant-loop-place : goal.invariant-loop-place
invariant-loop-place l = pointwise same_action l.a l.b ≡ pointwise same_action (drop l.place l.a) (drop l.place l.b)
