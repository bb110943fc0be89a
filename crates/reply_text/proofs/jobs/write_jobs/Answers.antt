use Rattle.std.proofs.Common.{◌+◌, List, length, ap, arith}
use Rattle.std.proofs.lemmas.List.Sums.{sum_by-take-le}
use Rattle.fsrm_model.specs.declared.row.JobRow.{JobRow}
use Rattle.fsrm_model.specs.commands.Cost.{path_cost}
use Rattle.fsrm_model.specs.objects.Jobs.{job_number}
use Rattle.reply_text.specs.ReportLines.{job_text}
use Rattle.line_parts.proofs.Each.{writes_all, writes_one, writes_one_front}
use Rattle.line_parts.proofs.Sent.{passed_on, told}
use Rattle.reply_text.proofs.Quotas.{at_place, sum_more}
use Rattle.reply_text.proofs.ReportLines.{all_jobs, jobs_kept}
use Rattle.reply_text.proofs.jobs.write_jobs.Goals as goal

pub write_job-requires-clause-own : goal.write_job-requires-clause-own
write_job-requires-clause-own g c =
    let jobs = c.args.engine.now.rows.jobs in
    at_place job_number jobs c.loop-place.place c.job_at.result.now (jobs_kept c.args.engine.now.size c.args.engine.now.rows c.objects-objects.ensures.store).ascending (rw c.objects-objects.ensures.jobs at c.job_at.ensures)

pub returns-in_err-write_job-clause-writes : goal.returns-in_err-write_job-clause-writes
returns-in_err-write_job-clause-writes g c =
    let engine = c.args.engine.now in
    passed_on c.from_residual.result c.from_residual.ensures.1
    (told (all_jobs engine.size engine.rows)
    (writes_one_front (job_text engine.rows.nodes) engine.rows.jobs c.loop-place.place c.job_at.result.now (rw c.objects-objects.ensures.jobs at c.job_at.ensures) g.met.S.Sink.write_then c.loop-place.invariant.writes c.in_err-write_job.ensures.writes))

pub returns-in_err-write_job-clause-looks : goal.returns-in_err-write_job-clause-looks
returns-in_err-write_job-clause-looks g c =
    let nodes = c.args.engine.now.rows.nodes in
    let jobs = c.args.engine.now.rows.jobs in
    omega (arith, c.loop-place.invariant.looks, c.in_err-write_job.ensures.looks, sum_more (λ job. path_cost nodes job.scope) jobs c.loop-place.place c.job_at.result.now (rw c.objects-objects.ensures.jobs at c.job_at.ensures), sum_by-take-le (λ (job : JobRow). path_cost nodes job.scope) jobs (c.loop-place.place + 1))

pub returns-clause-writes : goal.returns-clause-writes
returns-clause-writes g c =
    let engine = c.args.engine.now in
    let same = ap (λ (rows : List JobRow). length rows) c.objects-objects.ensures.jobs in
    told (all_jobs engine.size engine.rows) (writes_all (job_text engine.rows.nodes) engine.rows.jobs c.loop-place.place (omega (arith, c.loop-place-test.false, c.job_count-place-end.ensures, same)) c.loop-place.invariant.writes)

pub loop-place-preserved : goal.loop-place-preserved
loop-place-preserved g c =
    let engine = c.args.engine.now in
    let nodes = c.args.engine.now.rows.nodes in
    let jobs = c.args.engine.now.rows.jobs in
    record {
      writes = writes_one (job_text nodes) jobs c.loop-place.place c.job_at.result.now (rw c.objects-objects.ensures.jobs at c.job_at.ensures) g.met.S.Sink.write_then c.loop-place.invariant.writes c.in_ok-write_job.ensures.writes;
      looks = omega (arith, c.loop-place.invariant.looks, c.in_ok-write_job.ensures.looks, sum_more (λ job. path_cost nodes job.scope) jobs c.loop-place.place c.job_at.result.now (rw c.objects-objects.ensures.jobs at c.job_at.ensures));
    }
