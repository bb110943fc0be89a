use Rattle.std.proofs.Common.{◌≡◌, length}
use Rattle.fsrm_store.proofs.replay.let_go.Given as goal

abbrev pub invariant-acts : goal.invariant-acts
invariant-acts l = record {
  size : l.engine.size ≡ l.fn.engine.size;
  rows : l.engine.rows ≡ l.fn.engine.rows;
}

abbrev pub decreases-acts : goal.decreases-acts
decreases-acts l = length l.engine.waiting
