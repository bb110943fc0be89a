use Rattle.fsrm_journal.proofs.NextLaws.{held_there, ended_there}
use Rattle.fsrm_journal.proofs.laws.records_are_read.Goals as goal

pub returns-clause-each : goal.returns-clause-each
returns-clause-each c = held_there

pub returns-clause-last : goal.returns-clause-last
returns-clause-last c = ended_there
