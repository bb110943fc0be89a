use Rattle.fsrm_outside.proofs.Shown.{shows_front}
use Rattle.fsrm_outside.proofs.writing.write_all.Goals as goal

pub returns-then-count-bytes-clause-err : goal.returns-then-count-bytes-clause-err
returns-then-count-bytes-clause-err g c =
    let sink = g.S.Sink in
    let wrote = c.write_front-count in
    shows_front (sink.shown c.args.sink.now) (sink.shown wrote.new.sink) c.args.bytes.now wrote.result wrote.ensures.shown
