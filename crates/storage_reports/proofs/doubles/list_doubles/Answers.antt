use Rattle.std.proofs.Common.{◌≡◌, List, IfOk, filter, map, take, true, sym, ◌∙◌, ap, subst}
use Rattle.std.specs.Prelude.{bytes_eq}
use Rattle.fsrm_base.specs.Order.{in_order}
use Rattle.fsrm_model.specs.declared.report.ReportRow.{ReportRow}
use Rattle.fsrm_model.specs.declared.row.NodeRow.{NodeRow}
use Rattle.storage_reports.specs.declared.ranked.Ranked.{Ranked}
use Rattle.storage_reports.specs.Files.{Fits, sums}
use Rattle.fsrm_model.specs.reports.Groups.{groups}
use Rattle.storage_reports.specs.Ranks.{row_in, stands_before}
use Rattle.fsrm_model.specs.reports.Reports.{duplicate_rows, file_key, file_row, first_alike, has_double, length_of}
use Rattle.storage_reports.proofs.TableLaws.{table_twice}
use Rattle.storage_reports.proofs.TwinLaws.{fits_left, left_rows}
use Rattle.storage_reports.proofs.doubles.list_doubles.Goals as goal

pub grouped-requires : goal.grouped-requires
grouped-requires g c =
    let K = c.args.tree.now.size in
    let all : c.in_ok-files.files.files ≡ c.in_ok-files.files.all = c.in_ok-files.ensures.files ∙ sym c.in_ok-files.ensures.all in
    let fits : Fits K c.in_ok-files.files.all = subst (Fits K) all c.in_ok-files.ensures.fits in
    record { fits = subst (Fits K) (sym c.in_ok-leave_single.ensures.begun) (fits_left K c.in_ok-files.files.all c.leave_single.new.files.all c.in_ok-leave_single.ensures.left fits) }

pub doubled-requires : goal.doubled-requires
doubled-requires g c =
    c.in_ok-known.ensures.groups
    ∙ ap (groups bytes_eq file_key (sums c.args.tree.now.size)) (c.in_ok-leave_single.ensures.begun ∙ (sym c.in_ok-known.ensures.all ∙ sym c.again.ensures.files))

pub returns-clause-rows : goal.returns-clause-rows
returns-clause-rows g c =
    let K = c.args.tree.now.size in
    let all = c.in_ok-files.files.all in
    let left = c.again.new.self.files in
    let max = c.args.ask.now.filter.max in
    let are : left ≡ c.leave_single.new.files.all = c.again.ensures.files ∙ c.in_ok-known.ensures.all in
    let first : List Ranked → List ReportRow = λ rows. map row_in (take max (in_order (stands_before true) rows)) in
    let is = ap (map row_in) c.in_ok-rows.ensures.rows
    ∙ (ap first (left_rows K all c.leave_single.new.files.all left are c.in_ok-leave_single.ensures.left)
    ∙ (table_twice length_of (first_alike all) (file_row K) true max (filter (has_double all) all)
    ∙ ap (λ (xs : List NodeRow). take max (duplicate_rows K xs)) c.in_ok-files.ensures.all)) in
    subst (λ (rows : List ReportRow). IfOk c.table_of.result (λ table. table.rows ≡ rows)) is c.table_of.ensures
