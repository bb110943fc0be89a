use Rattle.record_fields.proofs.WriterLaws.{writes_more}
use Rattle.record_fields.proofs.lists.put_items.Goals as goal

pub loop-value-preserved : goal.loop-value-preserved
loop-value-preserved g c = writes_more g.F.Field.format.spell c.args.values.now c.loop-value.value-index c.value-item.result c.loop-value-test.true c.value-item.is c.loop-value.invariant c.write-end.ensures
