use Rattle.record_fields.proofs.WriterLaws.{writes_then}
use Rattle.record_codec.proofs.notices.NoticeFieldTyped.put.Goals as goal

pub returns-clause-written : goal.returns-clause-written
returns-clause-written c = writes_then c.write-percent_end.ensures c.put.ensures.written
