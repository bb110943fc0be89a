use Rattle.std.proofs.Common.{rules, refl, ◌≡◌, ◌∙◌}
use Rattle.std.specs.Io.KnownBytes.{append_known}
use Rattle.fsrm_outside.specs.Shown.{ShowsFront}
use Rattle.fsrm_session.proofs.Waiting.{grows_then}
use Rattle.fsrm_modes.proofs.Batches.{always_err, as_front, ended_as, shown_device, some_device}
use Rattle.fsrm_modes.specs.Views.{view_text}
use Rattle.fsrm_modes.proofs.show.write_view.Goals as goal

pub returns-clause-whole : goal.returns-clause-whole
returns-clause-whole g c =
    let shown = g.S.Sink.shown in
    let text = view_text c.args.view c.args.engine.now.size c.args.engine.now.rows in
    let batch = c.flush.new.self in
    ended_as (λ d. shown d ≡ append_known (shown c.args.sink.now) text) _ batch.device.now _ batch.device.ghost_name (c.in_ok-flush.ensures.by.same_device ∙ c.in_ok-write_text.ensures.writes.device.by.same_device) (search rules)
    (shown_device (shown c.args.sink.now) _ (shown batch.device.now) c.new-waiting.result.items batch.waiting.now.items text c.new-waiting.ensures.items c.in_ok-flush.ensures.empty c.in_ok-write_text.ensures.writes.text c.in_ok-flush.ensures.shown)

pub returns-in_err-write_text-clause-front : goal.returns-in_err-write_text-clause-front
returns-in_err-write_text-clause-front g c =
    let shown = g.S.Sink.shown in
    let text = view_text c.args.view c.args.engine.now.size c.args.engine.now.rows in
    let batch = c.write_text.new.sink in
    always_err c.from_residual.result
    (ended_as (λ d. ShowsFront (shown c.args.sink.now) (shown d) text) _ batch.device.now _ batch.device.ghost_name c.in_err-write_text.ensures.writes.device.by.same_device (search rules)
    (some_device (shown c.args.sink.now) (append_known (shown batch.device.now) batch.waiting.now.items) (shown batch.device.now) c.new-waiting.result.items batch.waiting.now.items text c.new-waiting.ensures.items c.in_err-write_text.ensures.writes.device.by.grows c.in_err-write_text.ensures.writes.text refl))

pub returns-in_err-flush-clause-front : goal.returns-in_err-flush-clause-front
returns-in_err-flush-clause-front g c =
    let shown = g.S.Sink.shown in
    let text = view_text c.args.view c.args.engine.now.size c.args.engine.now.rows in
    let mid = c.write_text.new.sink in
    let batch = c.flush.new.self in
    let whole = append_known (shown mid.device.now) mid.waiting.now.items in
    always_err c.from_residual-in_err-flush.result
    (ended_as (λ d. ShowsFront (shown c.args.sink.now) (shown d) text) _ batch.device.now _ batch.device.ghost_name (c.in_err-flush.ensures.by.same_device ∙ c.in_ok-write_text.ensures.writes.device.by.same_device) (search rules)
    (some_device (shown c.args.sink.now) whole (shown batch.device.now) c.new-waiting.result.items batch.waiting.now.items text c.new-waiting.ensures.items
    (grows_then (shown c.args.sink.now) (shown mid.device.now) (shown batch.device.now) c.in_ok-write_text.ensures.writes.device.by.grows c.in_err-flush.ensures.by.grows)
    (as_front _ whole text c.in_ok-write_text.ensures.writes.text) c.in_err-flush.ensures.shown))
