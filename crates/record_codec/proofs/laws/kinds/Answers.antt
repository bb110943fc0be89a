use Rattle.record_codec.proofs.DeedLaws.{deed_numbered}
use Rattle.record_codec.proofs.laws.kinds.Goals as goal

pub returns : goal.returns
returns c = deed_numbered
