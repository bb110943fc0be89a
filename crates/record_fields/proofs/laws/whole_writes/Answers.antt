use Rattle.record_fields.proofs.WriterLaws.{whole}
use Rattle.record_fields.proofs.laws.whole_writes.Goals as goal

pub returns : goal.returns
returns c = whole
