use Rattle.fsrm_journal.proofs.TwoReaders as laws
use Rattle.fsrm_journal.proofs.laws.readers_agree.Goals as goal

pub returns : goal.returns
returns c = laws.readers_agree
