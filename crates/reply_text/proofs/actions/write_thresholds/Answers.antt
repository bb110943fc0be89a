use Rattle.std.proofs.Common.{refl}
use Rattle.std.proofs.lemmas.Option.{slice_get_read}
use Rattle.reply_text.specs.Lines.{threshold_text}
use Rattle.line_parts.proofs.Each.{writes_one, writes_one_front}
use Rattle.line_parts.proofs.Sent.{passed_on}
use Rattle.reply_text.proofs.actions.write_thresholds.Goals as goal

pub returns-in_err-write_threshold : goal.returns-in_err-write_threshold
returns-in_err-write_threshold g c =
    let thresholds = c.args.thresholds.now in
    let k = c.loop-threshold.threshold-index in
    let threshold = c.threshold-item.result in
    record {
      writes = passed_on c.from_residual.result c.from_residual.ensures.1
          (writes_one_front threshold_text thresholds k threshold (slice_get_read thresholds _ k threshold refl c.loop-threshold-test.true c.threshold-item.is) g.met.S.Sink.write_then c.loop-threshold.invariant c.in_err-write_threshold.ensures.writes);
    }

pub loop-threshold-preserved : goal.loop-threshold-preserved
loop-threshold-preserved g c =
    let thresholds = c.args.thresholds.now in
    let k = c.loop-threshold.threshold-index in
    let threshold = c.threshold-item.result in
    writes_one threshold_text thresholds k threshold (slice_get_read thresholds _ k threshold refl c.loop-threshold-test.true c.threshold-item.is) g.met.S.Sink.write_then c.loop-threshold.invariant c.in_ok-write_threshold.ensures.writes
