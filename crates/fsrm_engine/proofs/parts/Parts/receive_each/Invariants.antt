use Rattle.std.proofs.Common.{◌≡◌, length}
use Rattle.std.specs.Vec.Iter.{into_iter_items, into_iter_len}
use Rattle.fsrm_engine.proofs.applied.ReceiveLaws.{Received}
use Rattle.fsrm_engine.proofs.parts.Parts.receive_each.Given as goal

-- some have come, and the others are still to come
abbrev pub invariant-loop-row : goal.invariant-loop-row
invariant-loop-row l = record {
  received : Received l.fn.self l.self (into_iter_items l.initial.row-iterator) (into_iter_items l.row-iterator);
  count : into_iter_len l.row-iterator ≡ length (into_iter_items l.row-iterator);
}
