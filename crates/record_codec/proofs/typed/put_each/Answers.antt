use Rattle.record_fields.proofs.WriterLaws.{writes_more}
use Rattle.record_codec.proofs.TypedLaws.{typed_more}
use Rattle.record_codec.proofs.typed.put_each.Goals as goal

pub loop-value-preserved : goal.loop-value-preserved
loop-value-preserved g c = record {
  written = writes_more g.T.Typed.spell c.args.values.now c.loop-value.value-index c.value-item.result c.loop-value-test.true c.value-item.is c.loop-value.invariant.written c.put-end.ensures.written;
  typed = typed_more g.T.Typed.typed c.args.values.now c.loop-value.value-index c.value-item.result c.loop-value-test.true c.value-item.is c.loop-value.invariant.typed c.put-end.ensures.typed;
}
