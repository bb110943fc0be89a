use Rattle.std.proofs.Common.{◌≡◌, arith, [], ◌∷◌, rules, refl}
use Rattle.std.specs.Prelude.{Err}
use Rattle.fsrm_model.specs.declared.command.Outcome.TheVariants.{Refused}
use Rattle.fsrm_store.specs.Amortized.{bytes_since}
use Rattle.fsrm_session.specs.Turns.{refused_turn, told}
use Rattle.fsrm_session.specs.Spending.{bytes_after}
use Rattle.fsrm_session.proofs.Entering.{bare_named}
use Rattle.fsrm_session.proofs.Going.{enters_stops, enters_tells, idle_enters}
use Rattle.fsrm_session.proofs.Handing.{told_alone}
use Rattle.fsrm_session.proofs.Object.{laws_of}
use Rattle.fsrm_session.proofs.Results.{after_ease, stops_passed}
use Rattle.fsrm_session.proofs.Spending.{after_most, spends_refused, then_ease}
use Rattle.fsrm_session.proofs.session.Session.refuse.Goals as goal

pub tell-requires-clause-named : goal.tell-requires-clause-named
tell-requires-clause-named g c = bare_named c.args.self.now.store.engine.rows c.args.refusal c.requires.bare

pub returns-in_err-tell-clause-runs : goal.returns-in_err-tell-clause-runs
returns-in_err-tell-clause-runs g c =
    let laws = laws_of g.met.O.Sink g.met.O.Disk g.met.O.Outside in
    let was = c.args.self.now in
    let e = was.store.engine in
    let turn = refused_turn e.size c.args.number c.args.refusal in
    let stop = c.in_err-tell.field-0.0 in
    let fault : c.from_residual.result ≡ Err stop = search rules in
    stops_passed c.from_residual.result stop (turn ∷ []) was c.tell.new.self c.args.outside.now c.tell.new.outside fault
    (enters_stops stop turn (told e.size e.rows e.waiting (record { number = c.args.number; moment = 0 }) (Refused c.args.refusal)) was was c.tell.new.self c.args.outside.now c.args.outside.now c.tell.new.outside laws
    (told_alone e.size e.rows e.waiting (record { number = c.args.number; moment = 0 }) (Refused c.args.refusal) c.requires.ready.idle)
    (idle_enters turn was c.args.outside.now laws (λ R. refl)) c.in_err-tell.ensures.runs)

pub returns-clause-runs : goal.returns-clause-runs
returns-clause-runs g c =
    let laws = laws_of g.met.O.Sink g.met.O.Disk g.met.O.Outside in
    let was = c.args.self.now in
    let e = was.store.engine in
    let turn = refused_turn e.size c.args.number c.args.refusal in
    after_ease c.ease.result (turn ∷ []) was c.tell.new.self c.ease.new.self c.args.outside.now c.tell.new.outside c.ease.new.outside laws
    (enters_tells turn (told e.size e.rows e.waiting (record { number = c.args.number; moment = 0 }) (Refused c.args.refusal)) was was c.tell.new.self c.args.outside.now c.args.outside.now c.tell.new.outside laws
    (told_alone e.size e.rows e.waiting (record { number = c.args.number; moment = 0 }) (Refused c.args.refusal) c.requires.ready.idle)
    (idle_enters turn was c.args.outside.now laws (λ R. refl)) c.in_ok-tell.ensures.runs)
    c.ease.ensures.runs

-- what it takes
pub returns-in_err-tell-clause-looks : goal.returns-in_err-tell-clause-looks
returns-in_err-tell-clause-looks g c =
    let was = c.args.self.now in
    let e = was.store.engine in
    let next = c.tell.new.self in
    spends_refused (refused_turn e.size c.args.number c.args.refusal ∷ []) was next c.args.outside.now e.waiting c.args.refusal c.args.steps.now c.tell.new.steps (bytes_after c.from_residual.result next) c.requires.bare c.requires.ready.idle c.tell.ensures.journal.journal
    (after_most c.from_residual.result next) c.tell.ensures.looks

pub returns-clause-looks : goal.returns-clause-looks
returns-clause-looks g c =
    let laws = laws_of g.met.O.Sink g.met.O.Disk g.met.O.Outside in
    let was = c.args.self.now in
    let e = was.store.engine in
    let turn = refused_turn e.size c.args.number c.args.refusal in
    let next = c.tell.new.self in
    then_ease (turn ∷ []) was next c.args.outside.now c.tell.new.outside c.args.steps.now c.tell.new.steps c.ease.new.steps (bytes_after c.ease.result c.ease.new.self)
    (enters_tells turn (told e.size e.rows e.waiting (record { number = c.args.number; moment = 0 }) (Refused c.args.refusal)) was was next c.args.outside.now c.args.outside.now c.tell.new.outside laws
    (told_alone e.size e.rows e.waiting (record { number = c.args.number; moment = 0 }) (Refused c.args.refusal) c.requires.ready.idle)
    (idle_enters turn was c.args.outside.now laws (λ R. refl)) c.in_ok-tell.ensures.runs)
    (spends_refused (turn ∷ []) was next c.args.outside.now e.waiting c.args.refusal c.args.steps.now c.tell.new.steps (bytes_since next.store.journal) c.requires.bare c.requires.ready.idle c.tell.ensures.journal.journal (omega arith) c.tell.ensures.looks)
    c.ease.ensures.looks
