use Rattle.std.proofs.Common.{◌≡◌, take}
use Rattle.report_schedule.specs.DueJobs.{due_runs}
use Rattle.report_schedule.proofs.runs.due_runs.Given as goal

abbrev pub invariant-loop-place : goal.invariant-loop-place
invariant-loop-place l = l.runs.items ≡ due_runs l.moment (take l.place l.objects.jobs)
