use Rattle.std.proofs.Common.{◌≡◌, [], length, refl, sym, ◌∙◌, arith}
use Rattle.std.proofs.lemmas.List.{append-nil}
use Rattle.fsrm_session.specs.Turns.{told}
use Rattle.fsrm_session.specs.declared.session.Session.{Session}
use Rattle.fsrm_session.specs.declared.stop.Stop.TheVariants.{NoMemory}
use Rattle.fsrm_session.proofs.Object.{laws_of}
use Rattle.fsrm_session.proofs.Told.{cut_back, kept_more, kept_tells, sent_front, sent_whole, tells_stops}
use Rattle.fsrm_session.proofs.session.Session.keep.Goals as goal

pub returns-then-is_err-clause-runs : goal.returns-then-is_err-clause-runs
returns-then-is_err-clause-runs g c =
    let was = c.args.self.now in
    let e = was.store.engine in
    let text = told e.size e.rows e.waiting c.args.line c.args.answer.now.outcome in
    let reply = c.write_reply in
    let sent = sent_front reply.result _ _ text reply.ensures.writes.text in
    let long : c.len-mark.result ≡ length was.kept.items = omega (arith, c.len-mark.ensures, was.kept.ok.0) in
    let back : c.truncate.new.self.items ≡ was.kept.items =
    c.truncate.ensures.items ∙ cut_back was.kept.items reply.new.sink.bytes.now.items sent.front c.len-mark.result (kept_more was.kept.items reply.new.sink.bytes.now.items sent.front sent.shown) long in
    let next : Session = record { store = reply.new.store; kept = c.truncate.new.self; alloc = was.alloc; scratch = was.scratch } in
    tells_stops NoMemory [] text was next c.args.outside.now c.args.outside.now (text, refl)
    (kept_tells [] was next c.args.outside.now (laws_of g.met.O.Sink g.met.O.Disk g.met.O.Outside) reply.ensures.stands (back ∙ sym (append-nil was.kept.items)))

pub returns-then-is_err-clause-err : goal.returns-then-is_err-clause-err
returns-then-is_err-clause-err g c =
    let was = c.args.self.now in
    let e = was.store.engine in
    let text = told e.size e.rows e.waiting c.args.line c.args.answer.now.outcome in
    let reply = c.write_reply in
    let sent = sent_front reply.result _ _ text reply.ensures.writes.text in
    let long : c.len-mark.result ≡ length was.kept.items = omega (arith, c.len-mark.ensures, was.kept.ok.0) in
    c.truncate.ensures.items ∙ cut_back was.kept.items reply.new.sink.bytes.now.items sent.front c.len-mark.result (kept_more was.kept.items reply.new.sink.bytes.now.items sent.front sent.shown) long

pub returns-clause-runs : goal.returns-clause-runs
returns-clause-runs g c =
    let was = c.args.self.now in
    let e = was.store.engine in
    let text = told e.size e.rows e.waiting c.args.line c.args.answer.now.outcome in
    let reply = c.write_reply in
    let sent = sent_whole reply.result _ _ text (sym c.is_err.ensures.value ∙ c.if-is_err.false) reply.ensures.writes.text in
    kept_tells text was (record { store = reply.new.store; kept = reply.new.sink.bytes.now; alloc = was.alloc; scratch = was.scratch }) c.args.outside.now (laws_of g.met.O.Sink g.met.O.Disk g.met.O.Outside) reply.ensures.stands
    (kept_more was.kept.items reply.new.sink.bytes.now.items text sent)
