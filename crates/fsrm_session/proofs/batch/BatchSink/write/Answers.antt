use Rattle.std.proofs.Common.{take, ap, ◌∙◌}
use Rattle.std.specs.Io.KnownBytes.{append_known}
use Rattle.std.proofs.lemmas.Result.{IfOk-weaker}
use Rattle.fsrm_session.proofs.Waiting.{shows_piece, shows_direct, grows_write, grows_then}
use Rattle.fsrm_session.proofs.batch.BatchSink.write.Goals as goal

pub returns-then-wait-2-clause-shown : goal.returns-then-wait-2-clause-shown
returns-then-wait-2-clause-shown g c =
    let shown = g.S.Sink.shown in
    let first = c.args.self.now in
    let mid = c.flush.new.self in
    let flushed = c.in_ok-flush.ensures.shown ∙ ap (append_known (shown first.device.now)) c.if-wait.ensures.waits in
    shows_piece (shown first.device.now) (shown mid.device.now) first.waiting.now.items mid.waiting.now.items c.wait-2.new.waiting.items c.args.bytes.now flushed c.if-wait-2.ensures.waits

pub returns-clause-shown : goal.returns-clause-shown
returns-clause-shown g c =
    let shown = g.S.Sink.shown in
    let first = c.args.self.now in
    let mid = c.flush.new.self in
    let flushed = c.in_ok-flush.ensures.shown ∙ ap (append_known (shown first.device.now)) c.if-wait.ensures.waits in
    IfOk-weaker c.write.result _ _
    (λ n h. shows_direct (shown first.device.now) (shown mid.device.now) (shown c.write.new.self) first.waiting.now.items mid.waiting.now.items c.wait-2.new.waiting.items (take n c.args.bytes.now) flushed c.in_ok-flush.ensures.empty c.if-wait-2.ensures.waits h)
    c.write.ensures.shown

pub returns-clause-by : goal.returns-clause-by
returns-clause-by g c =
    let shown = g.S.Sink.shown in
    let first = c.args.self.now.device.now in
    let mid = c.flush.new.self.device.now in
    let last = c.write.new.self in
    let flushed = c.in_ok-flush.ensures.by in
    record {
      device_by = g.met.S.Sink.write_then first mid last flushed.device_by c.write.ensures.by;
      grows = grows_then (shown first) (shown mid) (shown last) flushed.grows (grows_write c.write.result (shown mid) (shown last) c.args.bytes.now c.write.ensures.shown c.write.ensures.failed);
      few = λ before. c.wait-2.ensures.few (flushed.few (c.wait.ensures.few before));
      same_device = flushed.same_device;
      same_text = flushed.same_text;
    }
