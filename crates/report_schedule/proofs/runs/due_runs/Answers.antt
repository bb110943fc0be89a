use Rattle.std.proofs.Common.{List, [], ◌∷◌, ◌++◌, ◌∙◌, ap, arith}
use Rattle.fsrm_model.specs.declared.command.Command.{Command}
use Rattle.fsrm_model.specs.objects.Jobs.{is_job}
use Rattle.fsrm_model.proofs.lines.Parts.{all_at}
use Rattle.report_schedule.specs.DueJobs.{due_runs, is_due_job, run_of}
use Rattle.report_schedule.proofs.RunLaws.{all_done, one_more}
use Rattle.report_schedule.proofs.runs.due_runs.Goals as goal

pub add_run-requires : goal.add_run-requires
add_run-requires c = all_at is_job c.args.objects.now.jobs c.loop-place.place c.job_at.result.now c.requires c.job_at.ensures

pub loop-place-preserved : goal.loop-place-preserved
loop-place-preserved c =
    let job = c.job_at.result.now in
    c.in_ok-add_run.ensures
    ∙ (ap (λ (l : List Command). l ++ due_runs c.args.moment (job ∷ [])) c.loop-place.invariant
    ∙ one_more (is_due_job c.args.moment) (run_of c.args.moment) c.args.objects.now.jobs c.loop-place.place job c.job_at.ensures)

pub returns : goal.returns
returns c =
    c.loop-place.invariant
    ∙ all_done (is_due_job c.args.moment) (run_of c.args.moment) c.args.objects.now.jobs c.loop-place.place (omega (arith, c.loop-place-test.false, c.job_count-place-end.ensures))
