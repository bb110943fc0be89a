use Rattle.record_codec.proofs.Spelled.{writable_spelled, spelled_writable}
use Rattle.record_codec.proofs.laws.spelled.Goals as goal

pub returns-clause-valid : goal.returns-clause-valid
returns-clause-valid c = writable_spelled

pub returns-clause-only : goal.returns-clause-only
returns-clause-only c = spelled_writable
