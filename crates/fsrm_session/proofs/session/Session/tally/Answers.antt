use Rattle.std.proofs.Common.{◌≡◌, ℕ, List, ◌++◌, length, ap, ◌∙◌, arith}
use Rattle.made_script.specs.Tally.{accepts}
use Rattle.fsrm_session.specs.Turns.{told}
use Rattle.fsrm_session.proofs.Told.{kept_more}
use Rattle.fsrm_session.proofs.Unshown.{acts_exact, as_counted}
use Rattle.fsrm_session.proofs.session.Session.tally.Goals as goal

pub returns-in-Ok-clause-tally : goal.returns-in-Ok-clause-tally
returns-in-Ok-clause-tally g c =
    let e = c.args.self.now.store.engine in
    let outcome = c.args.answer.now.outcome in
    let text = told e.size e.rows e.waiting c.args.line outcome in
    let sink = c.write_reply.new.sink in
    let writes = c.in-Ok.ensures.writes in
    let is : sink.bytes.now.items ≡ text = kept_more c.clear.new.self.items sink.bytes.now.items text writes.text ∙ ap (λ (l : List ℕ). l ++ text) c.clear.ensures.items in
    let all : c.len-bytes.result ≡ length text = omega (arith, c.len-bytes.ensures, sink.bytes.now.ok.0, ap (λ (l : List ℕ). length l) is) in
    as_counted c.one.result c.accepts.result (accepts outcome) c.in-Ok.acts (length e.waiting) c.len-bytes.result (length text) c.one.ensures c.accepts.ensures
    (acts_exact e.size e.rows e.waiting c.args.line outcome c.in-Ok.acts c.len-bytes.result c.in-Ok.ensures.count all c.len-bytes.type_inv) all
