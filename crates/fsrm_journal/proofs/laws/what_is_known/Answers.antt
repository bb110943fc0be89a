use Rattle.fsrm_journal.proofs.Switched.{knows_opened, knows_read, knows_on}
use Rattle.fsrm_journal.proofs.laws.what_is_known.Goals as goal

pub returns-clause-opened : goal.returns-clause-opened
returns-clause-opened c = knows_opened

pub returns-clause-read : goal.returns-clause-read
returns-clause-read c = knows_read

pub returns-clause-added : goal.returns-clause-added
returns-clause-added c = knows_on
