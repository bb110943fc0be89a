use Rattle.fsrm_base.proofs.Order.{least_free_is}
use Rattle.fsrm_model.specs.objects.Jobs.{job_number}
use Rattle.fsrm_objects.proofs.objects.Objects.add_job.Goals as goal

pub insert_job-requires-clause-free : goal.insert_job-requires-clause-free
insert_job-requires-clause-free c =
    rw (← c.self.view_is, c.free_number-number.ensures.number) (least_free_is job_number c.self.inside.jobs.rows c.free_number-number.ensures.kept.ascending).free
