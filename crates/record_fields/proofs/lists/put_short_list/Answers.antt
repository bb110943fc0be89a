use Rattle.record_fields.proofs.WriterLaws.{writes_list}
use Rattle.record_fields.proofs.lists.put_short_list.Goals as goal

pub returns : goal.returns
returns g c = writes_list 2 g.F.Field.format.spell c.args.values.now c.as_slice.result.now c.len.result c.len.ensures c.as_slice.ensures c.put_number-after.ensures c.put_items.ensures
