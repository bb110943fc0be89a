use Rattle.std.proofs.Common.{refl}
use Rattle.std.proofs.lemmas.Option.{slice_get_read}
use Rattle.reply_text.specs.Lines.{do_text}
use Rattle.line_parts.proofs.Each.{writes_one, writes_one_front}
use Rattle.line_parts.proofs.Sent.{passed_on}
use Rattle.reply_text.proofs.actions.write_dos.Goals as goal

pub returns-in_err-write_do : goal.returns-in_err-write_do
returns-in_err-write_do g c =
    let actions = c.args.actions.now in
    let k = c.loop-action.action-index in
    let action = c.action-item.result in
    record {
      writes = passed_on c.from_residual.result c.from_residual.ensures.1
          (writes_one_front do_text actions k action (slice_get_read actions _ k action refl c.loop-action-test.true c.action-item.is) g.met.S.Sink.write_then c.loop-action.invariant c.in_err-write_do.ensures.writes);
    }

pub loop-action-preserved : goal.loop-action-preserved
loop-action-preserved g c =
    let actions = c.args.actions.now in
    let k = c.loop-action.action-index in
    let action = c.action-item.result in
    writes_one do_text actions k action (slice_get_read actions _ k action refl c.loop-action-test.true c.action-item.is) g.met.S.Sink.write_then c.loop-action.invariant c.in_ok-write_do.ensures.writes
