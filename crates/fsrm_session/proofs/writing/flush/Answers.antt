use Rattle.std.proofs.Common.{◌-◌, take, arith}
use Rattle.fsrm_session.proofs.Waiting.{shows_rest, shows_all, grows_front}
use Rattle.fsrm_session.proofs.writing.flush.Goals as goal

pub returns-then-count-len-clause-shown : goal.returns-then-count-len-clause-shown
returns-then-count-len-clause-shown g c =
    let sink = g.S.Sink in
    let now = c.args.waiting.now in
    let wrote = c.write_front-count in
    shows_rest (sink.shown c.args.sink.now) (sink.shown wrote.new.sink) now.items c.as_slice.result.now c.rotate_left.new.self.items c.truncate.new.self.items wrote.result (c.len-then-count-len.result - wrote.result) c.as_slice.ensures.value wrote.ensures.shown c.rotate_left.ensures.items (omega (arith, now.ok.0)) c.truncate.ensures.items

pub returns-then-count-len-clause-grows : goal.returns-then-count-len-clause-grows
returns-then-count-len-clause-grows g c =
    let sink = g.S.Sink in
    let wrote = c.write_front-count in
    grows_front (sink.shown c.args.sink.now) (sink.shown wrote.new.sink) (take wrote.result c.as_slice.result.now) wrote.ensures.shown

pub returns-clause-shown : goal.returns-clause-shown
returns-clause-shown g c =
    let sink = g.S.Sink in
    let now = c.args.waiting.now in
    let wrote = c.write_front-count in
    shows_all (sink.shown c.args.sink.now) (sink.shown wrote.new.sink) now.items c.as_slice.result.now c.clear.new.self.items wrote.result c.as_slice.ensures.value (omega (arith, now.ok.0)) wrote.ensures.shown c.clear.ensures.items

pub returns-clause-grows : goal.returns-clause-grows
returns-clause-grows g c =
    let sink = g.S.Sink in
    let wrote = c.write_front-count in
    grows_front (sink.shown c.args.sink.now) (sink.shown wrote.new.sink) (take wrote.result c.as_slice.result.now) wrote.ensures.shown
