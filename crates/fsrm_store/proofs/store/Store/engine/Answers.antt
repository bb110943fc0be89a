use Rattle.fsrm_model.proofs.valid.ValidTests.{valid_by_test}
use Rattle.fsrm_store.proofs.store.Store.engine.Goals as goal

pub returns-clause-valid : goal.returns-clause-valid
returns-clause-valid c = valid_by_test c.args.self.now.engine.size c.args.self.now.engine.rows c.args.self.now.valid
