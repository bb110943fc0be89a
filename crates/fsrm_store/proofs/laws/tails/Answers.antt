use Rattle.fsrm_store.proofs.TailLaws.{store_tail, one_tail}
use Rattle.fsrm_store.proofs.laws.tails.Goals as goal

pub returns-clause-tail : goal.returns-clause-tail
returns-clause-tail c = store_tail

pub returns-clause-one : goal.returns-clause-one
returns-clause-one c = one_tail
