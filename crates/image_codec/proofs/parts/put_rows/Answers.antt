use Rattle.record_fields.proofs.WriterLaws.{writes_list}
use Rattle.image_codec.proofs.PartLaws.{rows_legal}
use Rattle.image_codec.proofs.parts.put_rows.Goals as goal

pub returns-clause-written : goal.returns-clause-written
returns-clause-written g c =
    writes_list 4 g.P.Part.format.spell c.args.values.now c.as_slice.result.now c.len.result c.len.ensures c.as_slice.ensures c.put_number-after.ensures c.put_each.ensures.written

pub returns-clause-legal : goal.returns-clause-legal
returns-clause-legal g c = λ most small meet.
    rows_legal g.P.Part.meets g.P.Part.format c.args.values.now most (rw c.as_slice.ensures at c.put_each.ensures.legal) small meet
