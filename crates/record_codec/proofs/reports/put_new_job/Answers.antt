use Rattle.fsrm_base.proofs.TestLaws.{both_true}
use Rattle.record_fields.proofs.WriterLaws.{writes_then}
use Rattle.record_codec.proofs.reports.put_new_job.Goals as goal

pub returns-clause-written : goal.returns-clause-written
returns-clause-written c =
    writes_then c.put-name_end.ensures.written (writes_then c.write-kind_end.ensures (writes_then c.put_path-scope_end.ensures.written
    (writes_then c.put_some-schedule_end.ensures.written c.put_filter.ensures.written)))

pub returns-clause-typed : goal.returns-clause-typed
returns-clause-typed c =
    both_true _ _ c.put-name_end.ensures.typed (both_true _ _ c.put_path-scope_end.ensures.text (both_true _ _ c.put_some-schedule_end.ensures.typed c.put_filter.ensures.typed))
