-- The quotas of a report.
use Rattle.std.specs.Prelude.{◌≡◌, ℕ, ◌≤◌, true, Option, Some, None, if◌then◌else◌}
use Rattle.fsrm_base.specs.Keyed.{has_row}
use Rattle.fsrm_model.specs.declared.row.Capacity.{Capacity}
use Rattle.fsrm_model.specs.declared.row.QuotaRow.{QuotaRow}
use Rattle.fsrm_model.specs.declared.row.Rows.{Rows}
use Rattle.fsrm_model.specs.nodes.Tree.{number}
use Rattle.fsrm_model.specs.objects.Quota.{quota_of}
use Rattle.fsrm_model.specs.values.Limits.{least_limit}
use Rattle.fsrm_model.specs.declared.report.ReportAsk.{ReportAsk}
use Rattle.fsrm_model.specs.reports.Reports.{is_much_used, percent_used}

-- a quota is found by its folder, which is there
pub record IsQuota (R : Rows) (quota : QuotaRow) : Type 0 where
  pub own : quota_of R quota.folder ≡ Some quota
  pub there : has_row number quota.folder R.nodes ≡ true
  pub limit : least_limit ≤ quota.limit

-- how many percent of a quota are used, if it has a row
abbrev pub listed_percent : Capacity → Rows → ReportAsk → QuotaRow → Option ℕ
listed_percent K R ask quota = if is_much_used K R ask quota then Some (percent_used K R quota) else None
