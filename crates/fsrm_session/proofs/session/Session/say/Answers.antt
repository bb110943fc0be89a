use Rattle.std.proofs.Common.{◌≡◌, arith, [], ◌∷◌, rules, ap}
use Rattle.std.specs.Prelude.{Err, flat_map}
use Rattle.line_parts.specs.Parts.{part_text}
use Rattle.fsrm_store.specs.Amortized.{bytes_since}
use Rattle.fsrm_store.specs.declared.store.Store.{Store}
use Rattle.fsrm_session.specs.Turns.{said_turn}
use Rattle.fsrm_session.specs.Spending.{bytes_after}
use Rattle.fsrm_session.proofs.Object.{laws_of}
use Rattle.fsrm_session.proofs.Results.{after_ease, stops_passed}
use Rattle.fsrm_session.proofs.Said.{said_goes, said_stops}
use Rattle.fsrm_session.proofs.Spending.{after_same, spends_less, spends_nothing, then_ease}
use Rattle.fsrm_session.proofs.session.Session.say.Goals as goal

pub returns-in_err-say_parts-clause-runs : goal.returns-in_err-say_parts-clause-runs
returns-in_err-say_parts-clause-runs g c =
    let was = c.args.self.now in
    let text = flat_map part_text c.args.parts.now in
    let stop = c.in_err-say_parts.field-0.0 in
    let fault : c.from_residual.result ≡ Err stop = search rules in
    stops_passed c.from_residual.result stop (said_turn text ∷ []) was c.say_parts.new.self c.args.outside.now c.say_parts.new.outside fault
    (said_stops stop text was c.say_parts.new.self c.args.outside.now c.say_parts.new.outside (laws_of g.met.O.Sink g.met.O.Disk g.met.O.Outside) c.in_err-say_parts.ensures.runs)

pub returns-clause-runs : goal.returns-clause-runs
returns-clause-runs g c =
    let laws = laws_of g.met.O.Sink g.met.O.Disk g.met.O.Outside in
    let was = c.args.self.now in
    let text = flat_map part_text c.args.parts.now in
    after_ease c.ease.result (said_turn text ∷ []) was c.say_parts.new.self c.ease.new.self c.args.outside.now c.say_parts.new.outside c.ease.new.outside laws
    (said_goes text was c.say_parts.new.self c.args.outside.now c.say_parts.new.outside laws c.in_ok-say_parts.ensures.runs)
    c.ease.ensures.runs

-- what it takes
pub returns-in_err-say_parts-clause-looks : goal.returns-in_err-say_parts-clause-looks
returns-in_err-say_parts-clause-looks g c =
    let was = c.args.self.now in
    let next = c.say_parts.new.self in
    let turns = said_turn (flat_map part_text c.args.parts.now) ∷ [] in
    spends_less turns was c.args.outside.now c.args.steps.now c.args.steps.now c.args.steps.now (bytes_since was.store.journal) (bytes_after c.from_residual.result next) (omega arith)
    (after_same c.from_residual.result next was.store.journal (ap (λ (s : Store). s.journal) c.say_parts.ensures.store))
    (spends_nothing turns was c.args.outside.now c.args.steps.now)

pub returns-clause-looks : goal.returns-clause-looks
returns-clause-looks g c =
    let laws = laws_of g.met.O.Sink g.met.O.Disk g.met.O.Outside in
    let was = c.args.self.now in
    let next = c.say_parts.new.self in
    let text = flat_map part_text c.args.parts.now in
    let turns = said_turn text ∷ [] in
    then_ease turns was next c.args.outside.now c.say_parts.new.outside c.args.steps.now c.args.steps.now c.ease.new.steps (bytes_after c.ease.result c.ease.new.self)
    (said_goes text was next c.args.outside.now c.say_parts.new.outside laws c.in_ok-say_parts.ensures.runs)
    (spends_less turns was c.args.outside.now c.args.steps.now c.args.steps.now c.args.steps.now (bytes_since was.store.journal) (bytes_since next.store.journal) (omega arith)
    (omega (arith, ap (λ (s : Store). bytes_since s.journal) c.say_parts.ensures.store)) (spends_nothing turns was c.args.outside.now c.args.steps.now))
    c.ease.ensures.looks
