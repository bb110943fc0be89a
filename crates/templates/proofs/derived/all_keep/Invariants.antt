use Rattle.std.proofs.Common.{◌≡◌, drop}
use Rattle.std.specs.List.{list_all}
use Rattle.templates.specs.Reached.{keeps}
use Rattle.templates.proofs.derived.all_keep.Given as goal

abbrev pub invariant-loop-place : goal.invariant-loop-place
invariant-loop-place l = list_all (keeps l.mode l.old l.new) l.objects.quotas ≡ list_all (keeps l.mode l.old l.new) (drop l.place l.objects.quotas)
