use Rattle.fsrm_journal.proofs.GivenUp.{knows_filling, settled_again}
use Rattle.fsrm_journal.proofs.laws.a_change_may_be_given_up.Goals as goal

pub returns-clause-known : goal.returns-clause-known
returns-clause-known g c = knows_filling

pub returns-clause-settled : goal.returns-clause-settled
returns-clause-settled g c = settled_again
