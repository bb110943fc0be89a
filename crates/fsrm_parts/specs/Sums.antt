-- What counters come to.
use Rattle.std.specs.Prelude.{List, map, filter}
use Rattle.fsrm_model.specs.declared.row.Capacity.{Capacity}
use Rattle.fsrm_model.specs.declared.row.NodeRow.{NodeRow}
use Rattle.fsrm_model.specs.declared.row.QuotaRow.{QuotaRow}
use Rattle.fsrm_model.specs.objects.Quota.{counts}
use Rattle.fsrm_model.specs.nodes.Tree.{usage}
use Rattle.quota_usage.specs.declared.change.Counter.{Counter}

-- what the files at and below a quota's folder take
abbrev pub counter_of : Capacity → List NodeRow → QuotaRow → Counter
counter_of K nodes quota = record { folder = quota.folder; bytes = usage K nodes quota.folder }

-- the same of each counting quota
abbrev pub sums_of : Capacity → List NodeRow → List QuotaRow → List Counter
sums_of K nodes quotas = map (counter_of K nodes) (filter counts quotas)
