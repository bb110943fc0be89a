use Rattle.std.proofs.Common.{◌≡◌, List, IfOk, map, take, true, ◌∙◌, ap, subst}
use Rattle.fsrm_model.specs.declared.report.ReportRow.{ReportRow}
use Rattle.fsrm_base.specs.Order.{in_order}
use Rattle.storage_reports.specs.declared.ranked.Ranked.{Ranked}
use Rattle.storage_reports.specs.Files.{sums}
use Rattle.fsrm_model.specs.reports.Groups.{groups}
use Rattle.storage_reports.specs.Ranks.{ranked, row_in, stands_before}
use Rattle.fsrm_model.specs.reports.Reports.{alloc_in}
use Rattle.storage_reports.proofs.TableLaws.{table_is}
use Rattle.storage_reports.proofs.groups.list_groups.Goals as goal

pub returns-clause-rows : goal.returns-clause-rows
returns-clause-rows g c =
    let G = g.G.Grouping in
    let xs = groups G.is_same G.value_in (sums c.args.tree.now.size) c.args.files.now.files in
    let is = ap (λ (rows : List Ranked). map row_in (take c.args.max (in_order (stands_before true) rows))) (c.in_ok-rows.ensures ∙ ap (map (ranked alloc_in g.G.Grouping.row_of)) c.in_ok-groups.ensures.groups)
    ∙ table_is alloc_in g.G.Grouping.row_of true c.args.max xs in
    subst (λ (rows : List ReportRow). IfOk c.table_of.result (λ table. table.rows ≡ rows)) is c.table_of.ensures
