use Rattle.std.proofs.Common.{◌≡◌, ◌∙◌, ap}
use Rattle.std.specs.Prelude.{Some, None}
use Rattle.fsrm_model.specs.declared.command.Outcome.TheVariants.{Done}
use Rattle.reply_text.proofs.Answered.{done_text, passive_text, sum_text, visited_text, refused_text}
use Rattle.line_parts.proofs.Sent.{told, unwritten}
use Rattle.reply_text.proofs.replies.write_one.Goals as goal

pub returns-in-Done-None-clause-writes : goal.returns-in-Done-None-clause-writes
returns-in-Done-None-clause-writes g c =
    let e = c.args.engine.now in
    let passive : c.in-Done-None.passive ≡ None = rw c.in-Done-None.is at c.in-Done-None.passive-is in
    let is : c.args.outcome.now ≡ Done None = c.in-Done-None.is ∙ ap Done passive in
    told (done_text e.size e.rows c.args.line.moment c.args.line.number c.args.outcome.now is) (c.write_ok.ensures.writes e.rows.nodes)

pub returns-in_ok-path-in-Done-Some-clause-writes : goal.returns-in_ok-path-in-Done-Some-clause-writes
returns-in_ok-path-in-Done-Some-clause-writes g c =
    let e = c.args.engine.now in
    let passive : c.in-Done-Some.passive ≡ Some c.in-Done-Some.screen = rw c.in-Done-Some.is at c.in-Done-Some.passive-is in
    let is : c.args.outcome.now ≡ Done (Some c.in-Done-Some.screen) = c.in-Done-Some.is ∙ ap Done passive in
    told (passive_text e.size e.rows c.args.line.moment c.args.line.number c.in-Done-Some.screen c.args.outcome.now c.as_str.result.now is (c.as_str.ensures ∙ c.in_ok-path-in-Done-Some.ensures.text)) (c.write_passive.ensures.writes e.rows.nodes)

pub returns-in_ok-path-in-Sum-clause-writes : goal.returns-in_ok-path-in-Sum-clause-writes
returns-in_ok-path-in-Sum-clause-writes g c =
    let e = c.args.engine.now in
    told (sum_text e.size e.rows c.args.line.moment c.args.line.number c.in-Sum.node c.in-Sum.bytes c.args.outcome.now c.as_str-in-Sum.result.now c.in-Sum.is (c.as_str-in-Sum.ensures ∙ c.in_ok-path-in-Sum.ensures.text)) (c.write_sum.ensures.writes e.rows.nodes)

pub returns-in_ok-path-in-Scanned-clause-writes : goal.returns-in_ok-path-in-Scanned-clause-writes
returns-in_ok-path-in-Scanned-clause-writes g c =
    let e = c.args.engine.now in
    told (visited_text e.size e.rows c.args.line.moment c.args.line.number c.in-Scanned.folder c.in-Scanned.visited c.in-Scanned.done c.args.outcome.now c.as_str-in-Scanned.result.now c.in-Scanned.is (c.as_str-in-Scanned.ensures ∙ c.in_ok-path-in-Scanned.ensures.text)) c.write_visited.ensures.writes

pub returns-in-Refused-clause-writes : goal.returns-in-Refused-clause-writes
returns-in-Refused-clause-writes g c =
    let e = c.args.engine.now in
    told (refused_text e.size e.rows c.args.line.moment c.args.line.number c.in-Refused.refusal c.args.outcome.now c.in-Refused.is) c.write_refusal.ensures.writes

-- there was no memory for a path
pub returns-in_err-path-in-Done-Some-clause-writes : goal.returns-in_err-path-in-Done-Some-clause-writes
returns-in_err-path-in-Done-Some-clause-writes g c = unwritten _ _ c.from_residual.result g.met.S.Sink.write_same c.from_residual.ensures.1

pub returns-in_err-path-in-Sum-clause-writes : goal.returns-in_err-path-in-Sum-clause-writes
returns-in_err-path-in-Sum-clause-writes g c = unwritten _ _ c.from_residual-in_err-path-in-Sum.result g.met.S.Sink.write_same c.from_residual-in_err-path-in-Sum.ensures.1

pub returns-in_err-path-in-Scanned-clause-writes : goal.returns-in_err-path-in-Scanned-clause-writes
returns-in_err-path-in-Scanned-clause-writes g c = unwritten _ _ c.from_residual-in_err-path-in-Scanned.result g.met.S.Sink.write_same c.from_residual-in_err-path-in-Scanned.ensures.1
