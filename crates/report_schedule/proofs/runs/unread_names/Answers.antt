use Rattle.std.proofs.Common.{ℕ, List, [], ◌∷◌, ◌++◌, ◌∙◌, ap, arith}
use Rattle.fsrm_model.specs.objects.Jobs.{job_name}
use Rattle.report_schedule.specs.DueJobs.{is_unread, unread_names}
use Rattle.report_schedule.proofs.RunLaws.{all_done, one_more}
use Rattle.report_schedule.proofs.runs.unread_names.Goals as goal

pub loop-place-preserved : goal.loop-place-preserved
loop-place-preserved c =
    let job = c.job_at.result.now in
    c.in_ok-add_unread.ensures
    ∙ (ap (λ (l : List (List ℕ)). l ++ unread_names (job ∷ [])) c.loop-place.invariant
    ∙ one_more is_unread job_name c.args.objects.now.jobs c.loop-place.place job c.job_at.ensures)

pub returns : goal.returns
returns c =
    c.loop-place.invariant
    ∙ all_done is_unread job_name c.args.objects.now.jobs c.loop-place.place (omega (arith, c.loop-place-test.false, c.job_count-place-end.ensures))
