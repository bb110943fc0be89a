use Rattle.record_fields.proofs.WriterLaws.{writes_number}
use Rattle.record_fields.proofs.writer.put_number_front.Goals as goal

pub returns : goal.returns
returns c = writes_number c.args.width c.args.number c.to_le_bytes-bytes.result c.requires.width c.to_le_bytes-bytes.ensures c.put_front.ensures
