use Rattle.fsrm_outside.specs.declared.calls.Call.TheVariants.{Len}
use Rattle.fsrm_outside.proofs.Kept.{quiet_through}
use Rattle.fsrm_outside.proofs.memory.disk.MemoryOutsideDisk.len.Goals as goal

pub returns-then-not-kept-clause-crash : goal.returns-then-not-kept-clause-crash
returns-then-not-kept-clause-crash c = quiet_through c.args.self.now.history c.noted-kept.new.history Len c.noted-kept.ensures.kept (λ cs i is. is)

pub returns-clause-crash : goal.returns-clause-crash
returns-clause-crash c = quiet_through c.args.self.now.history c.noted-kept.new.history Len c.noted-kept.ensures.kept (λ cs i is. is)
