use Rattle.std.proofs.Common.{arith}
use Rattle.line_parts.proofs.Sent.{passed_on}
use Rattle.notice_text.specs.Expand.{values_of}
use Rattle.notice_text.proofs.PieceLaws.{all_written, front_written, nothing_yet, one_more_piece, rest_is}
use Rattle.notice_text.proofs.expand.write_expanded.Goals as goal

pub loop-at-init : goal.loop-at-init
loop-at-init g c = nothing_yet (values_of c.args.facts.now) c.args.text.now c.args.sink.now g.met.S.Sink.write_same

pub loop-at-preserved : goal.loop-at-preserved
loop-at-preserved g c =
    let text = c.args.text.now in
    one_more_piece (values_of c.args.facts.now) text c.loop-at.at c.in_ok-at.field-0 _ (rest_is c.loop-at.at text) g.met.S.Sink.write_then c.loop-at.invariant c.in_ok-at.ensures.piece

pub returns-in_err-at : goal.returns-in_err-at
returns-in_err-at g c =
    let text = c.args.text.now in
    record {
      writes = passed_on c.from_residual.result c.from_residual.ensures.1
          (front_written (values_of c.args.facts.now) text c.loop-at.at _ (rest_is c.loop-at.at text) g.met.S.Sink.write_then c.loop-at.invariant c.in_err-at.ensures.piece);
    }

pub returns : goal.returns
returns g c =
    record { writes = all_written (values_of c.args.facts.now) c.args.text.now c.loop-at.at (omega arith) c.loop-at.invariant }
