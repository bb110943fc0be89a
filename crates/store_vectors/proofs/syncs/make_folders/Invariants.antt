use Rattle.fsrm_store.specs.Standing.{IsReady}
use Rattle.store_vectors.proofs.syncs.make_folders.Given as goal

-- the store may be written
abbrev pub invariant-loop-number : goal.invariant-loop-number
invariant-loop-number g l = IsReady g.D.Disk.reads l.store.journal l.disk
