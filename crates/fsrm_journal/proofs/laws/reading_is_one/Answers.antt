use Rattle.fsrm_journal.proofs.Walks.{read_once}
use Rattle.fsrm_journal.proofs.laws.reading_is_one.Goals as goal

pub returns : goal.returns
returns c = read_once
