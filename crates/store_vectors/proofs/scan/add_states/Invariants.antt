use Rattle.fsrm_store.specs.Standing.{IsReady}
use Rattle.store_vectors.proofs.scan.add_states.Given as goal

-- the store may be written
abbrev pub invariant-loop-line : goal.invariant-loop-line
invariant-loop-line g l = IsReady g.D.Disk.reads l.store.journal l.disk
