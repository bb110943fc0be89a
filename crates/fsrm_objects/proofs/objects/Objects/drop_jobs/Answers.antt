use Rattle.std.proofs.Common.{◌==◌, List, length, sym, ap, ◌∙◌, arith}
use Rattle.fsrm_model.specs.declared.row.JobRow.{JobRow}
use Rattle.fsrm_model.specs.objects.Jobs.{job_number}
use Rattle.fsrm_objects.specs.Tables.{Tables}
use Rattle.fsrm_objects.proofs.JobRows.{first, none_first}
use Rattle.fsrm_objects.proofs.objects.Objects.drop_jobs.Goals as goal

pub drop_job-requires : goal.drop_job-requires
drop_job-requires c =
    (first job_number (λ (job : JobRow). job.scope == c.args.folder) c.in-Some.number c.loop-number.self.jobs c.in-Some.ensures.ascending c.in-Some.ensures.first).there

pub loop-number-smaller : goal.loop-number-smaller
loop-number-smaller c =
    let it = first job_number (λ (job : JobRow). job.scope == c.args.folder) c.in-Some.number c.loop-number.self.jobs c.in-Some.ensures.ascending c.in-Some.ensures.first in
    let same = ap (λ (t : Tables). length t.jobs) c.drop_job.ensures in
    omega (arith, same, it.less)

pub loop-number-preserved : goal.loop-number-preserved
loop-number-preserved c =
    let it = first job_number (λ (job : JobRow). job.scope == c.args.folder) c.in-Some.number c.loop-number.self.jobs c.in-Some.ensures.ascending c.in-Some.ensures.first in
    rw c.drop_job.ensures (ap (λ (jobs : List JobRow). record c.loop-number.self { jobs = jobs }) it.same ∙ c.loop-number.invariant)

pub returns : goal.returns
returns c =
    let none = none_first job_number (λ (job : JobRow). job.scope == c.args.folder) c.loop-number.self.jobs (sym c.in_default.is ∙ c.first_on.ensures.first) in
    ap (λ (jobs : List JobRow). record c.loop-number.self { jobs = jobs }) (sym none) ∙ c.loop-number.invariant
