use Rattle.record_fields.proofs.WriterLaws.{writes_no_value, writes_value}
use Rattle.record_fields.proofs.lists.put_optional.Goals as goal

pub returns-in-None : goal.returns-in-None
returns-in-None g c = rw c.in-None.is (writes_no_value g.F.Field.format.spell c.put_number.ensures)

pub returns-in-Some : goal.returns-in-Some
returns-in-Some g c = rw c.in-Some.is (writes_value g.F.Field.format.spell c.in-Some.value c.put_number-after.ensures c.write.ensures)
