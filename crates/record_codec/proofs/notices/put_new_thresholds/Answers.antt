use Rattle.record_fields.proofs.WriterLaws.{writes_then}
use Rattle.record_codec.proofs.notices.put_new_thresholds.Goals as goal

pub returns-clause-written : goal.returns-clause-written
returns-clause-written c = writes_then c.put_short_list-after.ensures c.put_all.ensures.written
