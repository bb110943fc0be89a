use Rattle.record_fields.proofs.WriterLaws.{writes_more}
use Rattle.image_codec.proofs.PartLaws.{legal_more}
use Rattle.image_codec.proofs.parts.put_each.Goals as goal

pub loop-value-preserved : goal.loop-value-preserved
loop-value-preserved g c = record {
  written = writes_more g.P.Part.format.spell c.args.values.now c.loop-value.value-index c.value-item.result c.loop-value-test.true c.value-item.is c.loop-value.invariant.written c.put-end.ensures.written;
  legal = legal_more g.P.Part.meets g.P.Part.format.legal c.args.values.now c.loop-value.value-index c.value-item.result c.loop-value-test.true c.value-item.is c.loop-value.invariant.legal c.put-end.ensures.legal;
}
