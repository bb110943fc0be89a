use Rattle.std.proofs.Common.{◌≡◌, Some, get_or, ◌+◌, arith}
use Rattle.std.specs.List.{slice_get}
use Rattle.std.proofs.lemmas.Option.{slice_get-get_or}
use Rattle.std.proofs.lemmas.List.Sums.{sum_by-take-le}
use Rattle.fsrm_model.specs.declared.command.Subject.TheVariants.{Quota}
use Rattle.fsrm_model.specs.declared.row.ActionKind.TheVariants.{Event}
use Rattle.line_parts.proofs.Each.{writes_one, writes_one_front}
use Rattle.line_parts.proofs.Sent.{passed_on}
use Rattle.notice_text.specs.declared.notice.Notice.{Notice}
use Rattle.notice_text.specs.Outbox.{notice_cost, notice_lines}
use Rattle.notice_text.proofs.NoticeLaws.{sum_more}
use Rattle.notice_text.proofs.outboxes.write_notices.Goals as goal

abbrev none : Notice
none = record { moment = 0; act = record { subject = Quota 0 0; place = 0; kind = Event } }

pub write_notice-requires : goal.write_notice-requires
write_notice-requires g c = c.requires c.loop-notice.notice-index none c.loop-notice-test.true

pub returns-in_err-write_notice-clause-writes : goal.returns-in_err-write_notice-clause-writes
returns-in_err-write_notice-clause-writes g c =
    let engine = c.args.engine.now in
    let notices = c.args.notices.now in
    let k = c.loop-notice.notice-index in
    let item : slice_get notices k ≡ Some (get_or notices k none) = slice_get-get_or notices k none c.loop-notice-test.true in
    passed_on c.from_residual.result c.from_residual.ensures.1
    (writes_one_front (notice_lines engine.size engine.rows) notices k (get_or notices k none) item g.met.S.Sink.write_then c.loop-notice.invariant.writes c.in_err-write_notice.ensures.writes)

pub returns-in_err-write_notice-clause-looks : goal.returns-in_err-write_notice-clause-looks
returns-in_err-write_notice-clause-looks g c =
    let rows = c.args.engine.now.rows in
    let notices = c.args.notices.now in
    let k = c.loop-notice.notice-index in
    let item : slice_get notices k ≡ Some (get_or notices k none) = slice_get-get_or notices k none c.loop-notice-test.true in
    omega (arith, c.loop-notice.invariant.looks, c.in_err-write_notice.ensures.looks, sum_more (notice_cost rows) notices k (get_or notices k none) item, sum_by-take-le (notice_cost rows) notices (k + 1))

pub loop-notice-preserved : goal.loop-notice-preserved
loop-notice-preserved g c =
    let engine = c.args.engine.now in
    let notices = c.args.notices.now in
    let k = c.loop-notice.notice-index in
    let item : slice_get notices k ≡ Some (get_or notices k none) = slice_get-get_or notices k none c.loop-notice-test.true in
    record {
      writes = writes_one (notice_lines engine.size engine.rows) notices k (get_or notices k none) item g.met.S.Sink.write_then c.loop-notice.invariant.writes c.in_ok-write_notice.ensures.writes;
      looks = omega (arith, c.loop-notice.invariant.looks, c.in_ok-write_notice.ensures.looks, sum_more (notice_cost engine.rows) notices k (get_or notices k none) item);
    }

pub returns-clause-looks : goal.returns-clause-looks
returns-clause-looks g c =
    omega (arith, c.loop-notice.invariant.looks, sum_by-take-le (notice_cost c.args.engine.now.rows) c.args.notices.now c.loop-notice.notice-index)
