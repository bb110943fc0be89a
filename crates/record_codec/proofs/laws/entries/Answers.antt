use Rattle.record_codec.proofs.EntryLaws.{entry_places}
use Rattle.record_codec.proofs.laws.entries.Goals as goal

pub returns : goal.returns
returns c = entry_places
