use Rattle.fsrm_journal.proofs.Tails.{stands_after}
use Rattle.fsrm_journal.proofs.laws.records_have_their_bytes.Goals as goal

pub returns : goal.returns
returns c = stands_after
