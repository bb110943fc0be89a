use Rattle.record_fields.specs.Laws.{AreBytes}
use Rattle.record_fields.proofs.ItemLoops.{Continues}
use Rattle.record_fields.proofs.pieces.feed.Given as goal

abbrev pub invariant-loop-still : goal.invariant-loop-still
invariant-loop-still g l = record {
  so_far : Continues g.F.Field.format l.fn.items l.count l.bytes l.items l.still l.rest;
  are_bytes : AreBytes l.rest;
}

abbrev pub decreases-loop-still : goal.decreases-loop-still
decreases-loop-still g l = l.still
