use Rattle.std.proofs.Common.{◌≡◌}
use Rattle.fsrm_store.specs.EnginePieces.{nodes_from}
use Rattle.fsrm_store.proofs.pieces.next_live.Given as goal

abbrev pub invariant-loop-number : goal.invariant-loop-number
invariant-loop-number l = nodes_from l.from l.tree.nodes ≡ nodes_from l.number l.tree.nodes
