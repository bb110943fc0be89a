use Rattle.std.proofs.Common.{◌≡◌, ◌∙◌, ap, arith, [], ◌∷◌, rules}
use Rattle.std.specs.Prelude.{Err}
use Rattle.fsrm_store.specs.Amortized.{bytes_since}
use Rattle.fsrm_session.specs.Turns.{command_turn}
use Rattle.fsrm_session.specs.Spending.{bytes_after}
use Rattle.fsrm_session.proofs.Going.{breaks_stop, calms_goes, calms_stops}
use Rattle.fsrm_session.proofs.Object.{laws_of}
use Rattle.fsrm_session.proofs.Results.{after_ease, stops_passed}
use Rattle.fsrm_session.proofs.Spending.{after_fault, calm_then, spends_ease, spends_first, spends_less, then_ease}
use Rattle.fsrm_engine.specs.Machine.{Machine}
use Rattle.fsrm_session.proofs.Said.{on_ok}
use Rattle.fsrm_session.proofs.session.Session.take.Goals as goal

pub returns-in_err-prepare-clause-runs : goal.returns-in_err-prepare-clause-runs
returns-in_err-prepare-clause-runs g c =
    let was = c.args.self.now in
    let turns = command_turn was.store.engine.size c.args.number c.args.command.now ∷ [] in
    let stop = c.in_err-prepare.field-0.0 in
    let fault : c.from_residual.result ≡ Err stop = search rules in
    stops_passed c.from_residual.result stop turns was c.prepare.new.self c.args.outside.now c.prepare.new.outside fault
    (breaks_stop stop turns was c.prepare.new.self c.args.outside.now c.prepare.new.outside (laws_of g.met.O.Sink g.met.O.Disk g.met.O.Outside) c.in_err-prepare.ensures.runs)

pub returns-in_err-enter-clause-runs : goal.returns-in_err-enter-clause-runs
returns-in_err-enter-clause-runs g c =
    let was = c.args.self.now in
    let turns = command_turn was.store.engine.size c.args.number c.args.command.now ∷ [] in
    let stop = c.in_err-enter.field-0.0 in
    let fault : c.from_residual-in_err-enter.result ≡ Err stop = search rules in
    stops_passed c.from_residual-in_err-enter.result stop turns was c.enter.new.self c.args.outside.now c.enter.new.outside fault
    (calms_stops stop turns was c.prepare.new.self c.enter.new.self c.args.outside.now c.prepare.new.outside c.enter.new.outside (laws_of g.met.O.Sink g.met.O.Disk g.met.O.Outside) c.in_ok-prepare.ensures.runs
    (rw (← c.prepare.ensures.engine) c.in_err-enter.ensures.runs))

pub returns-clause-runs : goal.returns-clause-runs
returns-clause-runs g c =
    let laws = laws_of g.met.O.Sink g.met.O.Disk g.met.O.Outside in
    let was = c.args.self.now in
    let turns = command_turn was.store.engine.size c.args.number c.args.command.now ∷ [] in
    after_ease c.ease.result turns was c.enter.new.self c.ease.new.self c.args.outside.now c.enter.new.outside c.ease.new.outside laws
    (calms_goes turns was c.prepare.new.self c.enter.new.self c.args.outside.now c.prepare.new.outside c.enter.new.outside laws c.in_ok-prepare.ensures.runs (rw (← c.prepare.ensures.engine) c.in_ok-enter.ensures.runs))
    c.ease.ensures.runs

-- what it takes
pub returns-in_err-prepare-clause-looks : goal.returns-in_err-prepare-clause-looks
returns-in_err-prepare-clause-looks g c =
    let was = c.args.self.now in
    let next = c.prepare.new.self in
    let stop = c.in_err-prepare.field-0.0 in
    let fault : c.from_residual.result ≡ Err stop = search rules in
    let left = bytes_after c.from_residual.result next in
    spends_first [] (command_turn was.store.engine.size c.args.number c.args.command.now ∷ []) was c.args.outside.now c.args.steps.now c.prepare.new.steps left
    (spends_less [] was c.args.outside.now c.args.steps.now c.args.steps.now c.prepare.new.steps _ left (omega arith) (after_fault c.from_residual.result stop next fault)
    (spends_ease was c.args.outside.now c.args.steps.now c.prepare.new.steps _ c.in_err-prepare.ensures.looks))

pub returns-in_err-enter-clause-looks : goal.returns-in_err-enter-clause-looks
returns-in_err-enter-clause-looks g c =
    let was = c.args.self.now in
    let turns = command_turn was.store.engine.size c.args.number c.args.command.now ∷ [] in
    let mid = c.prepare.new.self in
    let next = c.enter.new.self in
    let stop = c.in_err-enter.field-0.0 in
    let fault : c.from_residual-in_err-enter.result ≡ Err stop = search rules in
    let left = bytes_after c.from_residual-in_err-enter.result next in
    spends_less turns was c.args.outside.now c.args.steps.now c.args.steps.now c.enter.new.steps _ left (omega arith) (after_fault c.from_residual-in_err-enter.result stop next fault)
    (calm_then turns was mid c.args.outside.now c.prepare.new.outside c.args.steps.now c.prepare.new.steps c.enter.new.steps _ (laws_of g.met.O.Sink g.met.O.Disk g.met.O.Outside) c.in_ok-prepare.ensures.runs c.in_ok-prepare.ensures.looks
    (rw (← c.prepare.ensures.engine) c.in_err-enter.ensures.looks))

pub returns-clause-looks : goal.returns-clause-looks
returns-clause-looks g c =
    let laws = laws_of g.met.O.Sink g.met.O.Disk g.met.O.Outside in
    let was = c.args.self.now in
    let turns = command_turn was.store.engine.size c.args.number c.args.command.now ∷ [] in
    let mid = c.prepare.new.self in
    let next = c.enter.new.self in
    then_ease turns was next c.args.outside.now c.enter.new.outside c.args.steps.now c.enter.new.steps c.ease.new.steps (bytes_after c.ease.result c.ease.new.self)
    (calms_goes turns was mid next c.args.outside.now c.prepare.new.outside c.enter.new.outside laws c.in_ok-prepare.ensures.runs (rw (← c.prepare.ensures.engine) c.in_ok-enter.ensures.runs))
    (calm_then turns was mid c.args.outside.now c.prepare.new.outside c.args.steps.now c.prepare.new.steps c.enter.new.steps (bytes_since next.store.journal) laws c.in_ok-prepare.ensures.runs c.in_ok-prepare.ensures.looks
    (rw (← c.prepare.ensures.engine) c.in_ok-enter.ensures.looks))
    c.ease.ensures.looks

-- the rows that it leaves
pub returns-clause-rows : goal.returns-clause-rows
returns-clause-rows g c =
    on_ok c.ease.result _
    (ap (λ (m : Machine). m.rows) c.ease.ensures.engine
    ∙ (c.in_ok-enter.ensures.rows ∙ ap (λ (m : Machine). (command_turn m.size c.args.number c.args.command.now).after m.rows) c.prepare.ensures.engine))
