use Rattle.std.proofs.Common.{ap}
use Rattle.std.specs.Prelude.{Err}
use Rattle.fsrm_store.specs.declared.fault.StoreFault.{StoreFault}
use Rattle.fsrm_modes.proofs.RunEnds.{full_fault}
use Rattle.fsrm_modes.proofs.init.init.Goals as goal

pub returns-in-Err-clause-full : goal.returns-in-Err-clause-full
returns-in-Err-clause-full g c is = c.in-Err.ensures.full (ap (λ (f : StoreFault). Err f) (full_fault c.in-Err.fault c.from.result c.from.ensures is))
