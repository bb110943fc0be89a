use Rattle.record_fields.proofs.WriterLaws.{writes_then}
use Rattle.record_codec.proofs.settings.put_setting.Goals as goal

pub returns-in-Options : goal.returns-in-Options
returns-in-Options c = rw c.in-Options.is (writes_then c.put_u8-after.ensures c.put_u64.ensures)
