use Rattle.fsrm_store.proofs.Amortizing.{whole, together}
use Rattle.fsrm_store.proofs.laws.looks.Goals as goal

pub returns-clause-whole : goal.returns-clause-whole
returns-clause-whole c = whole

pub returns-clause-together : goal.returns-clause-together
returns-clause-together c = together
