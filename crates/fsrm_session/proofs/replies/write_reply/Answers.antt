use Rattle.std.proofs.Common.{ℕ, List, ◌++◌, length, sym, ap, subst, ◌∙◌, arith}
use Rattle.fsrm_model.specs.declared.command.Act.{Act}
use Rattle.fsrm_model.specs.meaning.Named.{IsNamed}
use Rattle.fsrm_model.specs.texts.ActText.{act_lines}
use Rattle.fsrm_engine.specs.Machine.{Machine}
use Rattle.line_parts.proofs.Sent.{cut_first, passed_on, told, two_texts}
use Rattle.fsrm_session.proofs.Unshown.{as_err, as_ok}
use Rattle.fsrm_session.proofs.Handing.{keeps_same, alike_same, reply_lent, cost_lent, told_alone}
use Rattle.fsrm_session.proofs.replies.write_reply.Goals as goal

pub write_outcome-requires : goal.write_outcome-requires
write_outcome-requires g c = subst (λ (m : Machine). IsNamed m.rows c.args.answer.now.outcome) (sym c.engine.ensures.lent) c.requires.named

pub returns-in_err-write_outcome-clause-journal : goal.returns-in_err-write_outcome-clause-journal
returns-in_err-write_outcome-clause-journal g c = keeps_same c.args.store.now

pub returns-in_err-write_outcome-clause-stands : goal.returns-in_err-write_outcome-clause-stands
returns-in_err-write_outcome-clause-stands g c = alike_same c.args.store.now

pub returns-in_err-write_outcome-clause-writes : goal.returns-in_err-write_outcome-clause-writes
returns-in_err-write_outcome-clause-writes g c =
    let e = c.args.store.now.engine in
    let same = reply_lent c.engine.result.now e c.args.line.moment c.args.line.number c.args.answer.now.outcome c.engine.ensures.lent in
    let rest = act_lines e.rows e.waiting in
    passed_on c.from_residual.result c.from_residual.ensures.1 (as_err (cut_first rest (ap (λ (l : List ℕ). l ++ rest) same) c.in_err-write_outcome.ensures.writes))

pub returns-in_err-write_outcome-clause-looks : goal.returns-in_err-write_outcome-clause-looks
returns-in_err-write_outcome-clause-looks g c =
    let same = cost_lent c.engine.result.now c.args.store.now.engine c.args.line.moment c.args.answer.now.outcome c.engine.ensures.lent in
    omega (arith, same, c.in_err-write_outcome.ensures.looks)

pub returns-then-not-answer-clause-journal : goal.returns-then-not-answer-clause-journal
returns-then-not-answer-clause-journal g c = keeps_same c.args.store.now

pub returns-then-not-answer-clause-stands : goal.returns-then-not-answer-clause-stands
returns-then-not-answer-clause-stands g c = alike_same c.args.store.now

pub returns-then-not-answer-clause-writes : goal.returns-then-not-answer-clause-writes
returns-then-not-answer-clause-writes g c =
    let e = c.args.store.now.engine in
    let same = reply_lent c.engine.result.now e c.args.line.moment c.args.line.number c.args.answer.now.outcome c.engine.ensures.lent in
    as_ok (told (same ∙ told_alone e.size e.rows e.waiting c.args.line c.args.answer.now.outcome (c.requires.calm c.if-not-answer.true)) c.in_ok-write_outcome.ensures.writes)

pub returns-then-not-answer-clause-count : goal.returns-then-not-answer-clause-count
returns-then-not-answer-clause-count g c = omega (arith, ap (λ (acts : List Act). length acts) (c.requires.calm c.if-not-answer.true))

pub returns-then-not-answer-clause-looks : goal.returns-then-not-answer-clause-looks
returns-then-not-answer-clause-looks g c =
    let same = cost_lent c.engine.result.now c.args.store.now.engine c.args.line.moment c.args.answer.now.outcome c.engine.ensures.lent in
    omega (arith, same, c.in_ok-write_outcome.ensures.looks)

pub returns-clause-writes : goal.returns-clause-writes
returns-clause-writes g c =
    let e = c.args.store.now.engine in
    let same = reply_lent c.engine.result.now e c.args.line.moment c.args.line.number c.args.answer.now.outcome c.engine.ensures.lent in
    two_texts g.met.S.Sink.write_then (ap (λ (l : List ℕ). l ++ act_lines e.rows e.waiting) same) (as_ok {x = tt} {y = 0} c.in_ok-write_outcome.ensures.writes) c.write_acts.ensures.writes

pub returns-clause-looks : goal.returns-clause-looks
returns-clause-looks g c =
    let same = cost_lent c.engine.result.now c.args.store.now.engine c.args.line.moment c.args.answer.now.outcome c.engine.ensures.lent in
    omega (arith, same, c.in_ok-write_outcome.ensures.looks, c.write_acts.ensures.looks)
