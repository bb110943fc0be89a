use Rattle.std.proofs.Common.{◌≡◌, ◌≤◌, ◌+◌, refl, sym, ap, ◌∙◌, true, arith}
use Rattle.std.specs.List.{list_all}
use Rattle.fsrm_model.specs.declared.report.ReportRow.{ReportRow}
use Rattle.fsrm_model.specs.declared.report.ReportAsk.{ReportAsk}
use Rattle.fsrm_model.specs.reports.Reports.{table}
use Rattle.fsrm_model.specs.texts.Text.{is_report}
use Rattle.line_parts.proofs.Sent.{cut_first, passed_on, two_texts}
use Rattle.reply_text.specs.ReportLines.{IsMade, is_there, row_text}
use Rattle.reply_text.proofs.Answered.{list_text, report_looks, report_text, some_given}
use Rattle.reply_text.proofs.ReportRows.{table_there}
use Rattle.reply_text.proofs.replies.write_answer.Goals as goal

pub returns-in_err-write_ok-in-Listing-clause-writes : goal.returns-in_err-write_ok-in-Listing-clause-writes
returns-in_err-write_ok-in-Listing-clause-writes g c =
    let e = c.args.engine.now in
    passed_on c.from_residual.result c.from_residual.ensures.1
    (cut_first _ (list_text e.size e.rows c.args.line.moment c.args.line.number c.in-Listing.ask c.args.answer.now.outcome c.in-Listing.is) (c.in_err-write_ok-in-Listing.ensures.writes e.rows.nodes))

pub returns-in_ok-write_ok-in-Listing-clause-writes : goal.returns-in_ok-write_ok-in-Listing-clause-writes
returns-in_ok-write_ok-in-Listing-clause-writes g c =
    let e = c.args.engine.now in
    two_texts g.met.S.Sink.write_then (list_text e.size e.rows c.args.line.moment c.args.line.number c.in-Listing.ask c.args.answer.now.outcome c.in-Listing.is)
    (c.in_ok-write_ok-in-Listing.ensures.writes e.rows.nodes) c.write_list.ensures.writes

pub unwrap-requires : goal.unwrap-requires
unwrap-requires g c = some_given c.args.table (c.requires.table ∙ ap is_report c.in-Report.is)

pub write_rows-requires-clause-there : goal.write_rows-requires-clause-there
write_rows-requires-clause-there g c =
    let e = c.args.engine.now in
    let made : IsMade e.size e.rows c.args.line.moment c.args.answer.now.outcome c.unwrap.result.now.rows = rw c.unwrap.ensures at c.requires.rows in
    let rows : c.unwrap.result.now.rows ≡ table e.size e.rows c.in-Report.ask c.args.line.moment = rw c.in-Report.is at made in
    ap (list_all (is_there e.rows)) (c.as_slice-rows.ensures ∙ rows) ∙ table_there e.size e.rows c.in-Report.ask c.args.line.moment c.objects-objects.ensures.store

pub returns-in_err-write_ok-in-Report-clause-writes : goal.returns-in_err-write_ok-in-Report-clause-writes
returns-in_err-write_ok-in-Report-clause-writes g c =
    let e = c.args.engine.now in
    passed_on c.from_residual-in_err-write_ok-in-Report.result c.from_residual-in_err-write_ok-in-Report.ensures.1
    (cut_first _ (report_text e.size e.rows c.args.line.moment c.args.line.number c.in-Report.ask c.args.answer.now.outcome (table e.size e.rows c.in-Report.ask c.args.line.moment) c.in-Report.is refl)
    (c.in_err-write_ok-in-Report.ensures.writes e.rows.nodes))

pub returns-in_ok-write_ok-in-Report-clause-writes : goal.returns-in_ok-write_ok-in-Report-clause-writes
returns-in_ok-write_ok-in-Report-clause-writes g c =
    let e = c.args.engine.now in
    let line = c.args.line in
    let ask = c.in-Report.ask in
    let made : IsMade e.size e.rows line.moment c.args.answer.now.outcome c.unwrap.result.now.rows = rw c.unwrap.ensures at c.requires.rows in
    let rows : c.unwrap.result.now.rows ≡ table e.size e.rows ask line.moment = rw c.in-Report.is at made in
    let same : c.as_ref.result.now ≡ ask = c.as_ref.ensures in
    two_texts g.met.S.Sink.write_then
    (report_text e.size e.rows line.moment line.number c.as_ref.result.now c.args.answer.now.outcome c.as_slice-rows.result.now (rw same c.in-Report.is) (rw same (c.as_slice-rows.ensures ∙ rows)))
    (c.in_ok-write_ok-in-Report.ensures.writes e.rows.nodes) c.write_rows.ensures.writes

pub returns-in_ok-write_ok-in-Report-clause-looks : goal.returns-in_ok-write_ok-in-Report-clause-looks
returns-in_ok-write_ok-in-Report-clause-looks g c =
    let e = c.args.engine.now in
    let line = c.args.line in
    let made : IsMade e.size e.rows line.moment c.args.answer.now.outcome c.unwrap.result.now.rows = rw c.unwrap.ensures at c.requires.rows in
    let rows : c.unwrap.result.now.rows ≡ table e.size e.rows c.in-Report.ask line.moment = rw c.in-Report.is at made in
    omega (arith, c.write_rows.ensures.looks, report_looks e.size e.rows line.moment c.in-Report.ask c.args.answer.now.outcome c.as_slice-rows.result.now c.in-Report.is (c.as_slice-rows.ensures ∙ rows))
