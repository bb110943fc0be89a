use Rattle.fsrm_journal.proofs.Walks.{reads_all}
use Rattle.fsrm_journal.proofs.laws.records_are_added_to_what_was_read.Goals as goal

pub returns : goal.returns
returns c = reads_all
