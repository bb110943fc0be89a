use Rattle.fsrm_base.proofs.TestLaws.{both_true}
use Rattle.record_fields.proofs.WriterLaws.{writes_then}
use Rattle.record_codec.proofs.exceptions.put_new_exception.Goals as goal

pub returns-clause-written : goal.returns-clause-written
returns-clause-written c = writes_then c.put_path-path_end.ensures.written c.put_all.ensures.written

pub returns-clause-typed : goal.returns-clause-typed
returns-clause-typed c = both_true _ _ c.put_path-path_end.ensures.text c.put_all.ensures.typed
