use Rattle.std.proofs.Common.{◌≡◌, sym, ap}
use Rattle.fsrm_model.specs.declared.command.Outcome.TheVariants.{Report}
use Rattle.fsrm_model.specs.meaning.Named.{IsNamed}
use Rattle.fsrm_model.specs.reports.Reports.{table}
use Rattle.fsrm_model.specs.texts.Text.{is_report}
use Rattle.line_parts.proofs.Sent.{unwritten}
use Rattle.fsrm_session.proofs.replies.write_outcome.Goals as goal

pub report-requires-clause-folder : goal.report-requires-clause-folder
report-requires-clause-folder g c =
    let named : IsNamed c.args.engine.now.rows (Report c.in-Report.ask) = rw c.in-Report.is at c.requires in
    rw c.as_ref.ensures named.0

pub report-requires-clause-filter : goal.report-requires-clause-filter
report-requires-clause-filter g c =
    let named : IsNamed c.args.engine.now.rows (Report c.in-Report.ask) = rw c.in-Report.is at c.requires in
    rw c.as_ref.ensures named.1

pub write_answer-requires-clause-table : goal.write_answer-requires-clause-table
write_answer-requires-clause-table g c = sym (ap is_report c.in-Report.is)

pub write_answer-requires-clause-rows : goal.write_answer-requires-clause-rows
write_answer-requires-clause-rows g c =
    let e = c.args.engine.now in
    let rows : c.in_ok-table-in-Report.table.rows ≡ table e.size e.rows c.in-Report.ask c.args.line.moment = rw c.as_ref.ensures at c.in_ok-table-in-Report.ensures.rows in
    rw c.in-Report.is rows

pub returns-in_err-table-in-Report-clause-writes : goal.returns-in_err-table-in-Report-clause-writes
returns-in_err-table-in-Report-clause-writes g c = unwritten _ _ c.from_residual.result g.met.S.Sink.write_same c.from_residual.ensures.1
