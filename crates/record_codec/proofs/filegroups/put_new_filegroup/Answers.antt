use Rattle.fsrm_base.proofs.TestLaws.{both_true}
use Rattle.record_fields.proofs.WriterLaws.{writes_then}
use Rattle.record_codec.proofs.filegroups.put_new_filegroup.Goals as goal

pub returns-clause-written : goal.returns-clause-written
returns-clause-written c = writes_then c.put-name_end.ensures.written (writes_then c.put_all-members_end.ensures.written c.put_all.ensures.written)

pub returns-clause-typed : goal.returns-clause-typed
returns-clause-typed c = both_true _ _ c.put-name_end.ensures.typed (both_true _ _ c.put_all-members_end.ensures.typed c.put_all.ensures.typed)
