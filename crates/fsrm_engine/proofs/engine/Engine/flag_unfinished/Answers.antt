use Rattle.std.proofs.Common.{◌≡◌, subst}
use Rattle.fsrm_model.specs.store.Lasting.{lasting}
use Rattle.fsrm_engine.specs.Machine.{Machine, machine_of}
use Rattle.fsrm_engine.proofs.engine.Engine.flag_unfinished.Goals as goal

pub returns : goal.returns
returns c = subst (λ (o : Machine). machine_of c.flag_unfinished.new.self ≡ record o { rows = lasting o.rows }) c.self.view_is c.flag_unfinished.ensures.machine
