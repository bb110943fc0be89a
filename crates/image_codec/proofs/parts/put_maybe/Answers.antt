use Rattle.record_fields.proofs.WriterLaws.{writes_value, writes_no_value}
use Rattle.image_codec.proofs.parts.put_maybe.Goals as goal

pub returns-in-None-clause-written : goal.returns-in-None-clause-written
returns-in-None-clause-written g c = rw c.in-None.is (writes_no_value g.P.Part.format.spell c.put_u8.ensures)

pub returns-in-Some-clause-written : goal.returns-in-Some-clause-written
returns-in-Some-clause-written g c = rw c.in-Some.is (writes_value g.P.Part.format.spell c.in-Some.value c.put_u8-after.ensures c.put.ensures.written)
