use Rattle.std.proofs.Common.{ap}
use Rattle.fsrm_engine.specs.Machine.{Machine}
use Rattle.fsrm_store.proofs.replay.take_again.Goals as goal

pub returns-in-Finish-clause-rows : goal.returns-in-Finish-clause-rows
returns-in-Finish-clause-rows g c = rw c.in-Finish.is (ap (λ (m : Machine). m.rows) c.finish_fresh.ensures.ok)
