-- What a change does to counters, and which quotas refuse it.
use Rattle.std.specs.Prelude.{◌≡◌, ℕ, ◌+◌, ◌-◌, ◌<◌, ◌^◌, ◌==◌, Bool, true, false, List, filter, length, Option, Some, None, option_map, unwrap_or, if◌then◌else◌}
use Rattle.std.specs.Option.{option_map_or}
use Rattle.fsrm_model.specs.declared.row.NodeRow.{NodeRow}
use Rattle.fsrm_model.specs.declared.row.QuotaRow.{QuotaRow}
use Rattle.fsrm_base.specs.Keyed.{has_row}
use Rattle.fsrm_model.specs.objects.Quota.{refuses, deepest}
use Rattle.fsrm_model.specs.nodes.Tree.{number, chain, is_under}
use Rattle.quota_usage.specs.declared.change.Change.{Change}
use Rattle.quota_usage.specs.declared.change.Counter.{Counter}
use Rattle.quota_usage.specs.declared.change.Exceeded.{Exceeded}
use Rattle.quota_usage.specs.Counters.{used_in}

-- whether a folder is the other one or above it, if there is another one
abbrev pub is_above : List NodeRow → Option ℕ → ℕ → Bool
is_above nodes None folder = false
is_above nodes (Some below) folder = is_under nodes folder below

-- what a counter of a folder comes to: a change takes bytes from each folder above the one, and then gives bytes to
-- each above the other
abbrev pub charged : List NodeRow → Change → ℕ → ℕ → ℕ
charged nodes change folder bytes =
    bytes - (if is_above nodes change.from folder then change.minus else 0) + (if is_above nodes change.to folder then change.plus else 0)

abbrev pub charged_counter : List NodeRow → Change → Counter → Counter
charged_counter nodes change counter = record counter { bytes = charged nodes change counter.folder counter.bytes }

-- whether a quota refuses a change of its counter. One without a counter refuses nothing
abbrev pub refuses_change : List NodeRow → List Counter → Change → QuotaRow → Bool
refuses_change nodes counters change quota =
    option_map_or (λ bytes. refuses quota bytes (charged nodes change quota.folder bytes)) (used_in counters quota.folder) false

-- the quotas that refuse a change
abbrev pub over_by : List NodeRow → List QuotaRow → List Counter → Change → List QuotaRow
over_by nodes quotas counters change = filter (refuses_change nodes counters change) quotas

-- the refusal by a quota: its folder, what its counter would come to, and its limit
abbrev pub told_of : List NodeRow → List Counter → Change → QuotaRow → Exceeded
told_of nodes counters change quota =
    record {
      folder = quota.folder;
      would = charged nodes change quota.folder (unwrap_or (used_in counters quota.folder) 0);
      limit = quota.limit;
    }

-- the refusal by the deepest of them
abbrev pub exceeded_by : List NodeRow → List QuotaRow → List Counter → Change → Option Exceeded
exceeded_by nodes quotas counters change = option_map (told_of nodes counters change) (deepest nodes (over_by nodes quotas counters change))

-- the folders of a change are there
abbrev pub IsThere : List NodeRow → Option ℕ → Type 0
IsThere nodes None = Unit {0}
IsThere nodes (Some n) = has_row number n nodes ≡ true

pub record IsChange (nodes : List NodeRow) (change : Change) : Type 0 where
  pub from : IsThere nodes change.from
  pub to : IsThere nodes change.to

-- how many bytes a folder loses to which a change gives some: all that the change takes, if it takes them from the same folder
abbrev pub lost_by : Change → ℕ → ℕ
lost_by change to = option_map_or (λ from. if from == to then change.minus else 0) change.from 0

-- no counter passes 2^64 - 1
pub record Fits (nodes : List NodeRow) (counters : List Counter) (change : Change) : Type 0 where
  pub fits : (folder bytes : ℕ) → used_in counters folder ≡ Some bytes → charged nodes change folder bytes < 2 ^ 64

-- how many nodes lie on the way up
abbrev pub height : List NodeRow → Option ℕ → ℕ
height nodes None = 0
height nodes (Some n) = length (chain nodes n)
