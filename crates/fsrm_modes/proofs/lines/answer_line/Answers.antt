use Rattle.std.proofs.Common.{refl, sym, ◌∙◌, ◌+◌, ◌∷◌, ◌++◌, []}
use Rattle.std.proofs.lemmas.Result.{err_from_is_err_and}
use Rattle.fsrm_session.proofs.Object.{laws_of}
use Rattle.fsrm_store.specs.Amortized.{bytes_since}
use Rattle.fsrm_modes.specs.Places.{place_of}
use Rattle.fsrm_modes.proofs.Feeding.{fed_line, broken_line, broken_still, says_line}
use Rattle.fsrm_modes.proofs.Outcomes.{ok_gives}
use Rattle.fsrm_modes.proofs.Spending.{spends_line, spends_none}
use Rattle.fsrm_modes.proofs.lines.answer_line.Goals as goal

pub answer-requires : goal.answer-requires
answer-requires g c = record { ready = c.requires.ready }

-- there was no memory for the line
pub returns-then-is_err : goal.returns-then-is_err
returns-then-is_err g c =
    let was = c.args.session.now in
    record {
      runs = broken_still was.store.engine.size (place_of c.args.lines.now) (c.args.rest.now ++ 10 ∷ []) was c.args.outside.now (laws_of g.met.O.Sink g.met.O.Disk g.met.O.Outside);
      number = tt;
      ready = tt;
      memory = λ e. c.requires.ready.flush;
      counts = (refl, refl);
      reads = refl;
      left = refl;
      size = tt;
      looks = spends_none was.store.engine.size (place_of c.args.lines.now) (c.args.rest.now ++ 10 ∷ []) was c.args.outside.now c.args.steps.now;
    }

-- the session stopped
pub returns-in_err-answer-clause-runs : goal.returns-in_err-answer-clause-runs
returns-in_err-answer-clause-runs g c =
    let now = c.args.lines.now in
    let was = c.args.session.now in
    let line = c.line_of-line in
    let kept = c.hold_end.ensures in
    let p = err_from_is_err_and c.from_residual.result c.from_residual.ensures.1 in
    rw (p.1, p.2)
    (broken_line was.store.engine.size c.in_err-answer.field-0.0 (place_of now) c.args.rest.now line.result.now was c.answer.new.session c.args.outside.now c.answer.new.outside c.requires.one_line
    (says_line now.held.items c.args.rest.now c.hold_end.new.held.items c.deref.result.now line.result.now kept.none (ok_gives c.hold_end.result (sym c.is_err.ensures.value ∙ c.if-is_err.false) kept.some) c.deref.ensures.value line.ensures.none line.ensures.some)
    c.in_err-answer.ensures.runs)

pub returns-in_err-answer-clause-looks : goal.returns-in_err-answer-clause-looks
returns-in_err-answer-clause-looks g c =
    let now = c.args.lines.now in
    let was = c.args.session.now in
    let line = c.line_of-line in
    let kept = c.hold_end.ensures in
    let p = err_from_is_err_and c.from_residual.result c.from_residual.ensures.1 in
    rw (p.1, p.2)
    (spends_line was.store.engine.size (place_of now) c.args.rest.now line.result.now was c.args.outside.now c.args.steps.now c.answer.new.steps _ c.requires.one_line
    (says_line now.held.items c.args.rest.now c.hold_end.new.held.items c.deref.result.now line.result.now kept.none (ok_gives c.hold_end.result (sym c.is_err.ensures.value ∙ c.if-is_err.false) kept.some) c.deref.ensures.value line.ensures.none line.ensures.some)
    c.in_err-answer.ensures.looks)

pub returns-in_err-answer-clause-memory : goal.returns-in_err-answer-clause-memory
returns-in_err-answer-clause-memory g c =
    let p = err_from_is_err_and c.from_residual.result c.from_residual.ensures.1 in
    rw (p.1, p.2) c.in_err-answer.ensures.memory

pub returns-in_err-answer-clause-counts : goal.returns-in_err-answer-clause-counts
returns-in_err-answer-clause-counts g c =
    let p = err_from_is_err_and c.from_residual.result c.from_residual.ensures.1 in
    rw (p.1, p.2) c.in_err-answer.ensures.counts

-- the line is taken
pub returns-clause-runs : goal.returns-clause-runs
returns-clause-runs g c =
    let now = c.args.lines.now in
    let next = record now { number = now.number + 1; held = c.clear.new.self } in
    let was = c.args.session.now in
    let line = c.line_of-line in
    let kept = c.hold_end.ensures in
    fed_line was.store.engine.size (place_of now) (place_of next) c.args.rest.now line.result.now was c.answer.new.session c.args.outside.now c.answer.new.outside c.requires.one_line
    (says_line now.held.items c.args.rest.now c.hold_end.new.held.items c.deref.result.now line.result.now kept.none (ok_gives c.hold_end.result (sym c.is_err.ensures.value ∙ c.if-is_err.false) kept.some) c.deref.ensures.value line.ensures.none line.ensures.some)
    refl c.clear.ensures.items c.in_ok-answer.ensures.runs

pub returns-clause-looks : goal.returns-clause-looks
returns-clause-looks g c =
    let now = c.args.lines.now in
    let was = c.args.session.now in
    let line = c.line_of-line in
    let kept = c.hold_end.ensures in
    spends_line was.store.engine.size (place_of now) c.args.rest.now line.result.now was c.args.outside.now c.args.steps.now c.answer.new.steps (bytes_since c.answer.new.session.store.journal) c.requires.one_line
    (says_line now.held.items c.args.rest.now c.hold_end.new.held.items c.deref.result.now line.result.now kept.none (ok_gives c.hold_end.result (sym c.is_err.ensures.value ∙ c.if-is_err.false) kept.some) c.deref.ensures.value line.ensures.none line.ensures.some)
    c.in_ok-answer.ensures.looks
