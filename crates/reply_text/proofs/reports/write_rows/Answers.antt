use Rattle.std.proofs.Common.{◌+◌, refl, arith}
use Rattle.std.proofs.lemmas.List.Sums.{sum_by-take-le}
use Rattle.std.proofs.lemmas.Option.{slice_get_read}
use Rattle.fsrm_model.specs.commands.Cost.{row_cost}
use Rattle.line_parts.proofs.Each.{writes_all, writes_one, writes_one_front}
use Rattle.line_parts.proofs.Sent.{passed_on}
use Rattle.reply_text.specs.ReportLines.{is_there, row_text}
use Rattle.reply_text.proofs.ActLines.{all_at}
use Rattle.reply_text.proofs.Quotas.{sum_more}
use Rattle.reply_text.proofs.reports.write_rows.Goals as goal

pub write_row-requires-clause-there : goal.write_row-requires-clause-there
write_row-requires-clause-there g c =
    let rows = c.args.rows.now in
    let k = c.loop-row.row-index in
    let row = c.row-item.result in
    all_at (is_there c.args.engine.now.rows) rows k row c.requires.there (slice_get_read rows _ k row refl c.loop-row-test.true c.row-item.is)

pub returns-in_err-write_row-clause-writes : goal.returns-in_err-write_row-clause-writes
returns-in_err-write_row-clause-writes g c =
    let engine = c.args.engine.now in
    let rows = c.args.rows.now in
    let k = c.loop-row.row-index in
    let row = c.row-item.result in
    passed_on c.from_residual.result c.from_residual.ensures.1
    (writes_one_front (row_text engine.size engine.rows c.args.kind) rows k row (slice_get_read rows _ k row refl c.loop-row-test.true c.row-item.is) g.met.S.Sink.write_then c.loop-row.invariant.writes c.in_err-write_row.ensures.writes)

pub returns-in_err-write_row-clause-looks : goal.returns-in_err-write_row-clause-looks
returns-in_err-write_row-clause-looks g c =
    let nodes = c.args.engine.now.rows.nodes in
    let rows = c.args.rows.now in
    let k = c.loop-row.row-index in
    let row = c.row-item.result in
    omega (arith, c.loop-row.invariant.looks, c.in_err-write_row.ensures.looks, sum_more (row_cost nodes) rows k row (slice_get_read rows _ k row refl c.loop-row-test.true c.row-item.is), sum_by-take-le (row_cost nodes) rows (k + 1))

pub returns-clause-writes : goal.returns-clause-writes
returns-clause-writes g c =
    let engine = c.args.engine.now in
    writes_all (row_text engine.size engine.rows c.args.kind) c.args.rows.now c.loop-row.row-index (omega (arith, c.loop-row-test.false)) c.loop-row.invariant.writes

pub returns-clause-looks : goal.returns-clause-looks
returns-clause-looks g c =
    omega (arith, c.loop-row.invariant.looks, sum_by-take-le (row_cost c.args.engine.now.rows.nodes) c.args.rows.now c.loop-row.row-index)

pub loop-row-preserved : goal.loop-row-preserved
loop-row-preserved g c =
    let engine = c.args.engine.now in
    let rows = c.args.rows.now in
    let k = c.loop-row.row-index in
    let row = c.row-item.result in
    record {
      writes = writes_one (row_text engine.size engine.rows c.args.kind) rows k row (slice_get_read rows _ k row refl c.loop-row-test.true c.row-item.is) g.met.S.Sink.write_then c.loop-row.invariant.writes c.in_ok-write_row.ensures.writes;
      looks = omega (arith, c.loop-row.invariant.looks, c.in_ok-write_row.ensures.looks, sum_more (row_cost engine.rows.nodes) rows k row (slice_get_read rows _ k row refl c.loop-row-test.true c.row-item.is));
    }
