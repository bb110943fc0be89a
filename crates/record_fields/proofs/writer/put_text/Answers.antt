use Rattle.record_fields.proofs.WriterLaws.{writes_text}
use Rattle.record_fields.proofs.writer.put_text.Goals as goal

pub returns : goal.returns
returns c = writes_text c.args.text.now c.as_bytes.result.now c.as_bytes.ensures.value c.put_number-after.ensures c.put.ensures
