use Rattle.record_fields.proofs.WriterLaws.{writes_then}
use Rattle.record_codec.proofs.reports.put_job_deed.Goals as goal

pub returns-in-Add-clause-written : goal.returns-in-Add-clause-written
returns-in-Add-clause-written c = rw c.in-Add.is (writes_then c.put_u8-after.ensures c.put_new_job.ensures.written)

pub returns-in-Delete-clause-written : goal.returns-in-Delete-clause-written
returns-in-Delete-clause-written c = rw c.in-Delete.is (writes_then c.put_u8-after-in-Delete.ensures c.put.ensures.written)

pub returns-in-Run-clause-written : goal.returns-in-Run-clause-written
returns-in-Run-clause-written c = rw c.in-Run.is (writes_then c.put_u8-after-in-Run.ensures c.put-in-Run.ensures.written)
