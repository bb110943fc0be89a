-- Peaks, raised by counters.
use Rattle.std.specs.Prelude.{ℕ, nat_lt, List, Option, if◌then◌else◌}
use Rattle.std.specs.Option.{option_map_or}
use Rattle.fsrm_model.specs.declared.row.NodeRow.{NodeRow}
use Rattle.fsrm_model.specs.declared.row.QuotaRow.{QuotaRow}
use Rattle.quota_usage.specs.declared.change.Counter.{Counter}
use Rattle.quota_usage.specs.Charge.{is_above}
use Rattle.quota_usage.specs.Counters.{used_in}

-- a quota of which more is used than its peak has that as its new peak
abbrev pub raised_to : ℕ → ℕ → QuotaRow → QuotaRow
raised_to used moment quota = if nat_lt quota.peak used then record quota { peak = used; peak_at = moment } else quota

-- the same by its counter, if it has one
abbrev pub raised : List Counter → ℕ → QuotaRow → QuotaRow
raised counters moment quota = option_map_or (λ used. raised_to used moment quota) (used_in counters quota.folder) quota

-- the same of a quota at or above a folder, if there is one
abbrev pub raised_above : List NodeRow → Option ℕ → List Counter → ℕ → QuotaRow → QuotaRow
raised_above nodes place counters moment quota = if is_above nodes place quota.folder then raised counters moment quota else quota
