use Rattle.record_fields.proofs.WriterLaws.{writes_then}
use Rattle.record_codec.proofs.paths.put_on_path.Goals as goal

pub returns-clause-written : goal.returns-clause-written
returns-clause-written c = writes_then c.put_u8-after.ensures c.put_path.ensures.written
