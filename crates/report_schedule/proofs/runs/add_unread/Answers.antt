use Rattle.std.proofs.Common.{◌∙◌, ap, sym}
use Rattle.std.specs.Prelude.{is_none}
use Rattle.fsrm_model.specs.objects.Jobs.{job_name}
use Rattle.report_schedule.specs.DueJobs.{is_unread}
use Rattle.report_schedule.proofs.RunLaws.{failed}
use Rattle.report_schedule.specs.ScheduleText.{schedule_from}
use Rattle.report_schedule.proofs.runs.add_unread.Goals as goal

pub returns-in-Ok : goal.returns-in-Ok
returns-in-Ok c = failed is_unread job_name c.args.job.now c.args.names.now.items (ap is_none (ap schedule_from (sym c.as_str.ensures) ∙ c.in-Ok.ensures.ok))
