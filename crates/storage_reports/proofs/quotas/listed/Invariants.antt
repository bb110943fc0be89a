use Rattle.std.proofs.Common.{◌≡◌, ◌++◌, drop, filter, map, take, true}
use Rattle.fsrm_base.specs.Order.{in_order}
use Rattle.storage_reports.specs.Ranks.{ranked, stands_before}
use Rattle.fsrm_model.specs.reports.Reports.{is_much_used, percent_used, quota_row}
use Rattle.storage_reports.proofs.quotas.listed.Given as goal

abbrev pub invariant-loop-place : goal.invariant-loop-place
invariant-loop-place l =
    let K = l.engine.size in
    let R = l.engine.rows in
    take l.ask.filter.max (in_order (stands_before true) (l.rows.items ++ map (ranked (percent_used K R) (quota_row K R)) (filter (is_much_used K R l.ask) (drop l.place R.quotas)))) ≡ take l.ask.filter.max (in_order (stands_before true) (map (ranked (percent_used K R) (quota_row K R)) (filter (is_much_used K R l.ask) R.quotas)))
