-- Which thresholds of quotas are reached (MS-FSRM, IFsrmQuotaBase, Thresholds), and which of them a command crosses.
use Rattle.std.specs.Prelude.{◌≡◌, ℕ, ◌*◌, ◌≤◌, ◌&&◌, not, nat_le, Bool, true, false, Option, Some}
use Rattle.std.specs.Option.{option_map_or}
use Rattle.fsrm_model.specs.declared.row.Capacity.{Capacity}
use Rattle.fsrm_model.specs.declared.row.QuotaRow.{QuotaRow}
use Rattle.fsrm_model.specs.declared.row.Rows.{Rows}
use Rattle.fsrm_base.specs.Keyed.{has_row}
use Rattle.fsrm_model.specs.objects.Quota.{quota_of, counts, used_of}
use Rattle.fsrm_model.specs.objects.Thresholds.{percent_of}
use Rattle.fsrm_model.specs.nodes.Tree.{usage}

-- whether what is used comes up to a percentage of a limit. None, of a quota that doesn't count, comes up to none
abbrev pub reaches : ℕ → ℕ → Option ℕ → Bool
reaches limit percent used = option_map_or (λ bytes. nat_le (percent * limit) (100 * bytes)) used false

-- whether a quota has a threshold of a percentage, and what is used reaches it
abbrev pub has_reached : QuotaRow → ℕ → Option ℕ → Bool
has_reached quota percent used = has_row percent_of percent quota.thresholds && reaches quota.limit percent used

-- whether a folder's quota has reached a percentage
abbrev pub reached : Capacity → Rows → ℕ → ℕ → Bool
reached K R folder percent = option_map_or (λ quota. has_reached quota percent (used_of K R folder)) (quota_of R folder) false

-- a folder's quota has reached a percentage: it has that threshold, it counts, and what is used is enough
pub record IsReached (K : Capacity) (R : Rows) (folder percent : ℕ) : Type 0 where
  pub quota : QuotaRow
  pub is_there : quota_of R folder ≡ Some quota
  pub has : has_row percent_of percent quota.thresholds ≡ true
  pub counting : counts quota ≡ true
  pub enough : percent * quota.limit ≤ 100 * usage K R.nodes folder

-- a threshold is crossed that is reached after, and wasn't before: also one that wasn't there then, or whose quota didn't count
abbrev pub crossed : Capacity → Rows → Rows → ℕ → ℕ → Bool
crossed K before after folder percent = reached K after folder percent && not (reached K before folder percent)
