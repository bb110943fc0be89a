use Rattle.record_fields.proofs.WriterLaws.{writes_then}
use Rattle.image_codec.proofs.encoding.put_piece.Goals as goal

pub returns-in-Start-clause-written : goal.returns-in-Start-clause-written
returns-in-Start-clause-written c = rw c.in-Start.is (writes_then c.put-after.ensures.written c.put.ensures.written)
