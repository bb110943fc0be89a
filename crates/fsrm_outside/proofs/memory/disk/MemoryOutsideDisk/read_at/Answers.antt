use Rattle.fsrm_outside.specs.declared.calls.Call.TheVariants.{ReadAt}
use Rattle.fsrm_outside.proofs.Kept.{quiet_through}
use Rattle.fsrm_outside.proofs.memory.disk.MemoryOutsideDisk.read_at.Goals as goal

pub returns-then-not-noted-clause-crash : goal.returns-then-not-noted-clause-crash
returns-then-not-noted-clause-crash c = quiet_through c.args.self.now.history c.noted.new.history ReadAt c.noted.ensures.kept (λ cs i is. is)

pub returns-clause-crash : goal.returns-clause-crash
returns-clause-crash c = quiet_through c.args.self.now.history c.noted.new.history ReadAt c.noted.ensures.kept (λ cs i is. is)
