-- Counters that are changed and judged one by one, on the way up from a node.
use Rattle.std.specs.Prelude.{◌≡◌, ℕ, ◌+◌, ◌-◌, ◌<◌, ◌^◌, true, false, List, map, Option, Some, None, if◌then◌else◌}
use Rattle.std.specs.Option.{option_and_then}
use Rattle.fsrm_model.specs.declared.row.NodeRow.{NodeRow}
use Rattle.fsrm_model.specs.declared.row.QuotaRow.{QuotaRow}
use Rattle.fsrm_base.specs.Keyed.{row_of}
use Rattle.fsrm_model.specs.objects.Quota.{folder_of, refuses}
use Rattle.fsrm_model.specs.nodes.Tree.{is_under}
use Rattle.quota_usage.specs.declared.change.Change.{Change}
use Rattle.quota_usage.specs.declared.change.Counter.{Counter}
use Rattle.quota_usage.specs.declared.change.Exceeded.{Exceeded}
use Rattle.quota_usage.specs.Charge.{is_above}
use Rattle.quota_usage.specs.Counters.{used_in}

-- what a number of bytes comes to if some are taken from it, and then others given
abbrev pub amended : ℕ → ℕ → ℕ → ℕ
amended minus plus bytes = bytes - minus + plus

abbrev pub amended_counter : ℕ → ℕ → Counter → Counter
amended_counter minus plus counter = record counter { bytes = amended minus plus counter.bytes }

-- no counter on the way up from a node passes 2^64 - 1
pub record FitsAbove (nodes : List NodeRow) (counters : List Counter) (start minus plus : ℕ) : Type 0 where
  pub fits : (folder bytes : ℕ) → is_under nodes folder start ≡ true → used_in counters folder ≡ Some bytes → amended minus plus bytes < 2 ^ 64

-- the counters after the climb
abbrev pub climbed : List NodeRow → ℕ → ℕ → ℕ → List Counter → List Counter
climbed nodes start minus plus counters =
    map (λ counter. if is_under nodes counter.folder start then amended_counter minus plus counter else counter) counters

-- the same, if there is a way up
abbrev pub climbed_from : List NodeRow → Option ℕ → ℕ → ℕ → List Counter → List Counter
climbed_from nodes None minus plus counters = counters
climbed_from nodes (Some start) minus plus counters = climbed nodes start minus plus counters

-- the refusal by a quota, if it refuses that its counter is amended
abbrev pub judged : ℕ → ℕ → QuotaRow → ℕ → Option Exceeded
judged minus plus quota bytes =
    if refuses quota bytes (amended minus plus bytes)
    then Some (record { folder = quota.folder; would = amended minus plus bytes; limit = quota.limit })
    else None

-- the same of the quota of a folder, if it has one with a counter
abbrev pub refusal_of : List QuotaRow → List Counter → ℕ → ℕ → ℕ → Option Exceeded
refusal_of quotas counters minus plus folder =
    option_and_then (λ quota. option_and_then (judged minus plus quota) (used_in counters folder)) (row_of folder_of folder quotas)

-- the same if bytes are taken on one way up, and then given on another
abbrev pub moved_refusal : List NodeRow → List QuotaRow → List Counter → ℕ → ℕ → ℕ → ℕ → ℕ → Option Exceeded
moved_refusal nodes quotas counters from to minus plus folder =
    refusal_of quotas counters (if is_under nodes folder from then minus else 0) (if is_under nodes folder to then plus else 0) folder

-- the same of a change
abbrev pub refusal_at : List NodeRow → List QuotaRow → List Counter → Change → ℕ → Option Exceeded
refusal_at nodes quotas counters change folder =
    refusal_of quotas counters (if is_above nodes change.from folder then change.minus else 0) (if is_above nodes change.to folder then change.plus else 0) folder

-- of the folders on the way up from a node, the first that refuses
pub record IsFirst (nodes : List NodeRow) (refusal : ℕ → Option Exceeded) (start : ℕ) (exceeded : Exceeded) : Type 0 where
  pub place : ℕ
  pub on : is_under nodes place start ≡ true
  pub refused : refusal place ≡ Some exceeded
  pub below : (folder : ℕ) → is_under nodes folder start ≡ true → is_under nodes folder place ≡ false → refusal folder ≡ None

-- the refusal by the first of them, if one refuses
abbrev pub IsNearest : List NodeRow → (ℕ → Option Exceeded) → ℕ → Option Exceeded → Type 0
IsNearest nodes refusal start None = (folder : ℕ) → is_under nodes folder start ≡ true → refusal folder ≡ None
IsNearest nodes refusal start (Some exceeded) = IsFirst nodes refusal start exceeded

-- the same, if there is a way up
abbrev pub IsNearestTo : List NodeRow → (ℕ → Option Exceeded) → Option ℕ → Option Exceeded → Type 0
IsNearestTo nodes refusal None told = told ≡ None
IsNearestTo nodes refusal (Some start) told = IsNearest nodes refusal start told

-- the node where two ways up meet; below it none on the way from `to` refuses
pub record IsMeeting (nodes : List NodeRow) (refusal : ℕ → Option Exceeded) (from to node : ℕ) : Type 0 where
  pub on_from : is_under nodes node from ≡ true
  pub on_to : is_under nodes node to ≡ true
  pub below : (folder : ℕ) → is_under nodes folder to ≡ true → is_under nodes folder node ≡ false → refusal folder ≡ None
