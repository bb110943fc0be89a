use Rattle.record_fields.proofs.WriterLaws.{writes_then}
use Rattle.record_codec.proofs.EntryWriting.{in_front}
use Rattle.record_codec.proofs.encoding.put_finish.Goals as goal

pub returns-clause-written : goal.returns-clause-written
returns-clause-written c = in_front c.args.into.now c.put_u64.new.into c.put_u64.result c.requires (writes_then c.put_u64-at.ensures (writes_then c.put_u8-after.ensures c.put_u64.ensures))
