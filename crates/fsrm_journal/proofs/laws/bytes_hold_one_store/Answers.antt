use Rattle.fsrm_journal.proofs.Stores.{one_store, head_whole, fresh_store, stays_store}
use Rattle.fsrm_journal.proofs.laws.bytes_hold_one_store.Goals as goal

pub returns-clause-one : goal.returns-clause-one
returns-clause-one c = one_store

pub returns-clause-whole : goal.returns-clause-whole
returns-clause-whole c = head_whole

pub returns-clause-fresh : goal.returns-clause-fresh
returns-clause-fresh c = fresh_store

pub returns-clause-stays : goal.returns-clause-stays
returns-clause-stays c = stays_store
