-- Quotas: which of them count, which refuse, and their peaks (MS-FSRM, IFsrmQuota).
use Rattle.std.specs.Prelude.{ℕ, Bool, true, false, ◌&&◌, nat_lt, nat_le, List, map, filter, find, Option, Some, None, option_map, if◌then◌else◌}
use Rattle.std.specs.Option.{option_and_then}
use Rattle.std.specs.List.{list_all}
use Rattle.fsrm_model.specs.declared.command.Refusal.TheVariants.{QuotaExceeded}
use Rattle.fsrm_model.specs.declared.row.Capacity.{Capacity}
use Rattle.fsrm_model.specs.declared.row.NodeRow.{NodeRow}
use Rattle.fsrm_model.specs.declared.row.QuotaRow.{QuotaRow}
use Rattle.fsrm_model.specs.declared.row.QuotaState.{QuotaState}
use Rattle.fsrm_model.specs.declared.row.QuotaState.TheVariants.{Complete, Disabled, Rebuilding, Incomplete}
use Rattle.fsrm_model.specs.declared.row.Rows.{Rows}
use Rattle.fsrm_model.specs.commands.Check.{Check}
use Rattle.fsrm_base.specs.Keyed.{row_of}
use Rattle.fsrm_model.specs.values.Limits.{least_limit, greatest_limit}
use Rattle.fsrm_model.specs.nodes.Tree.{usage, is_under}

abbrev pub folder_of : QuotaRow → ℕ
folder_of quota = quota.folder

-- the quota of a folder
abbrev pub quota_of : Rows → ℕ → Option QuotaRow
quota_of R folder = row_of folder_of folder R.quotas

-- a limit, in bytes
abbrev pub is_limit : ℕ → Bool
is_limit limit = nat_le least_limit limit && nat_le limit greatest_limit

abbrev pub is_complete : QuotaState → Bool
is_complete Complete = true
is_complete Disabled = false
is_complete Rebuilding = false
is_complete Incomplete = false

-- a quota counts exactly if it is complete
abbrev pub counts : QuotaRow → Bool
counts quota = is_complete quota.state

-- what the files at and below the folder of a counting quota take; None for every other folder
abbrev pub used_of : Capacity → Rows → ℕ → Option ℕ
used_of K R folder = option_and_then (λ quota. if counts quota then Some (usage K R.nodes folder) else None) (quota_of R folder)

-- whether a quota refuses that the usage of its folder goes from before to after: it counts, it is enforced, the
-- usage rises, and comes to be greater than the limit
abbrev pub refuses : QuotaRow → ℕ → ℕ → Bool
refuses quota before after = (counts quota && quota.enforce) && (nat_lt before after && nat_lt quota.limit after)

-- the quotas that refuse that the nodes become these
abbrev pub over : Capacity → Rows → List NodeRow → List QuotaRow
over K R nodes = filter (λ quota. refuses quota (usage K R.nodes quota.folder) (usage K nodes quota.folder)) R.quotas

-- the one of these quotas whose folder is at or below that of each of them
abbrev pub deepest : List NodeRow → List QuotaRow → Option QuotaRow
deepest nodes quotas = find (λ quota. list_all (λ above. is_under nodes above.folder quota.folder) quotas) quotas

-- the refusal that the nodes become these: the deepest quota that refuses, what its folder would hold, and its limit
abbrev pub exceeded : Capacity → Rows → List NodeRow → Check
exceeded K R nodes =
    option_map (λ quota. QuotaExceeded quota.folder (usage K nodes quota.folder) quota.limit) (deepest nodes (over K R nodes))

-- a quota after a command of this moment: a usage that is greater than its peak is its new peak
abbrev pub peaked : Capacity → List NodeRow → ℕ → QuotaRow → QuotaRow
peaked K nodes moment quota =
    if counts quota && nat_lt quota.peak (usage K nodes quota.folder)
    then record quota { peak = usage K nodes quota.folder; peak_at = moment }
    else quota

abbrev pub peaks : Capacity → Rows → ℕ → Rows
peaks K R moment = record R { quotas = map (peaked K R.nodes moment) R.quotas }
