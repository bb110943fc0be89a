use Rattle.report_schedule.specs.DueJobs.{is_due_job, run_of}
use Rattle.std.proofs.Common.{sym}
use Rattle.report_schedule.proofs.RunLaws.{base_then, failed, made_then}
use Rattle.report_schedule.proofs.runs.add_run.Goals as goal

pub is_due_job-requires-clause-made : goal.is_due_job-requires-clause-made
is_due_job-requires-clause-made c = made_then c.args.job.now c.requires

pub is_due_job-requires-clause-base : goal.is_due_job-requires-clause-base
is_due_job-requires-clause-base c = base_then c.args.job.now c.requires

pub returns-then-not-is_due_job : goal.returns-then-not-is_due_job
returns-then-not-is_due_job c = failed (is_due_job c.args.moment) (run_of c.args.moment) c.args.job.now c.args.runs.now.items (sym c.if-not-is_due_job.ensures)
