use Rattle.std.proofs.Common.{◌≡◌, List, IfOk, filter, map, true, ◌∙◌, ap, subst}
use Rattle.fsrm_model.specs.declared.report.ReportRow.{ReportRow}
use Rattle.storage_reports.specs.Ranks.{row_in}
use Rattle.fsrm_model.specs.reports.Reports.{is_much_used, percent_used, quota_row}
use Rattle.storage_reports.proofs.TableLaws.{table_is}
use Rattle.storage_reports.proofs.quotas.list_quotas.Goals as goal

pub returns : goal.returns
returns c =
    let K = c.args.engine.now.size in
    let R = c.args.engine.now.rows in
    let xs = filter (is_much_used K R c.args.ask.now) R.quotas in
    let is = ap (map row_in) c.in_ok-rows.ensures ∙ table_is (percent_used K R) (quota_row K R) true c.args.ask.now.filter.max xs in
    subst (λ (rows : List ReportRow). IfOk c.table_of.result (λ table. table.rows ≡ rows)) is c.table_of.ensures
