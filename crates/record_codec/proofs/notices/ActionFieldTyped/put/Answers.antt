use Rattle.record_fields.proofs.WriterLaws.{writes_then}
use Rattle.record_codec.proofs.notices.ActionFieldTyped.put.Goals as goal

pub returns-clause-written : goal.returns-clause-written
returns-clause-written c = writes_then c.write-kind_end.ensures (writes_then c.put_minutes-minutes_end.ensures c.put.ensures.written)
