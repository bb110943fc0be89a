use Rattle.std.proofs.Common.{◌∙◌}
use Rattle.fsrm_outside.proofs.Shown.{shows_more, taken_within}
use Rattle.fsrm_outside.proofs.writing.write_front.Goals as goal

pub pieces-preserved : goal.pieces-preserved
pieces-preserved g c =
    let sink = g.S.Sink in
    record {
      within = taken_within c.args.bytes.now c.pieces.done c.in-Ok.count c.pieces.invariant.within c.in-Ok.ensures.count;
      shown = shows_more (sink.shown c.args.sink.now) (sink.shown c.pieces.sink) (sink.shown c.write.new.self) c.args.bytes.now c.pieces.done c.in-Ok.count c.pieces.invariant.shown c.in-Ok.ensures.shown;
      kept = c.in-Ok.ensures.cause.kept ∙ c.pieces.invariant.kept;
      by = g.met.S.Sink.write_then c.args.sink.now c.pieces.sink c.write.new.self c.pieces.invariant.by c.in-Ok.ensures.by;
    }
