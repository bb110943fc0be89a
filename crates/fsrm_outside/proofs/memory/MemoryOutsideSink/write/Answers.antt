use Rattle.std.proofs.Common.{inl, inr, ⊎_elim}
use Rattle.fsrm_outside.specs.declared.calls.Call.TheVariants.{Write}
use Rattle.fsrm_outside.proofs.Kept.{stopped_then}
use Rattle.fsrm_outside.proofs.memory.MemoryOutsideSink.write.Goals as goal

-- what is kept of a write that failed has no bytes
pub returns-then-not-show-clause-noted_failed : goal.returns-then-not-show-clause-noted_failed
returns-then-not-show-clause-noted_failed c =
    ⊎_elim
    (λ is. inl (c.new.result, c.new.ensures.items, is))
    (λ lost. inr lost)
    (stopped_then c.args.self.now.history c.show.new.history c.noted.new.history (Write c.new.result) c.if-not-show.ensures.done.0 c.noted.ensures.kept)
