use Rattle.std.proofs.Common.{◌≡◌, take}
use Rattle.report_schedule.specs.DueJobs.{unread_names}
use Rattle.report_schedule.proofs.runs.unread_names.Given as goal

abbrev pub invariant-loop-place : goal.invariant-loop-place
invariant-loop-place l = l.names.items ≡ unread_names (take l.place l.objects.jobs)
