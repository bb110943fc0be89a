-- Which quotas cross a threshold when folders gain bytes, and the acts that are due then.
use Rattle.std.specs.Prelude.{◌≡◌, ℕ, ◌+◌, ◌-◌, ◌<◌, ◌≤◌, ◌^◌, ◌==◌, ◌||◌, ◌&&◌, not, min, Bool, true, false, List, [], flat_map, slice_get, Option, Some, None, option_map}
use Rattle.std.specs.Option.{option_map_or}
use Rattle.fsrm_base.specs.Numbers.{is_in, is_set}
use Rattle.fsrm_model.specs.declared.command.Act.{Act}
use Rattle.fsrm_model.specs.declared.row.NodeRow.{NodeRow}
use Rattle.fsrm_model.specs.declared.row.QuotaRow.{QuotaRow}
use Rattle.fsrm_model.specs.objects.DueActions.{quota_acts}
use Rattle.number_set.specs.Numbers.{Numbers}
use Rattle.quota_usage.specs.declared.change.Change.{Change}
use Rattle.quota_usage.specs.declared.change.Counter.{Counter}
use Rattle.quota_usage.specs.Charge.{is_above}
use Rattle.quota_usage.specs.Counters.{used_in}
use Rattle.thresholds.specs.Settled.{crosses, crosses_any}
use Rattle.fsrm_model.specs.nodes.Tree.{is_under}

-- what was used before bytes were taken and others given; it fitted 64 bits
abbrev pub used_before : ℕ → ℕ → ℕ → ℕ
used_before minus plus now = min (now - plus + minus) (2 ^ 64 - 1)

-- whether a quota that lost bytes and then gained others crosses one of its thresholds, by its counter
abbrev pub is_crossing : List Counter → ℕ → ℕ → QuotaRow → Bool
is_crossing counters minus plus quota =
    option_map_or (λ now. crosses_any quota (used_before minus plus now) now) (used_in counters quota.folder) false

-- beside the places that were noted, those are of the quotas that pass a test; or of these only those that don't
pub record Notes (old new : Numbers) (quotas : List QuotaRow) (passes : QuotaRow → Bool) : Type 0 where
  pub bound : new.bound ≡ old.bound
  pub set : is_set old.members ≡ true → is_set new.members ≡ true
  pub members : (place : ℕ) → is_in new.members place ≡ (is_in old.members place || option_map_or passes (slice_get quotas place) false)

pub record Drops (old new : Numbers) (quotas : List QuotaRow) (passes : QuotaRow → Bool) : Type 0 where
  pub bound : new.bound ≡ old.bound
  pub set : is_set old.members ≡ true → is_set new.members ≡ true
  pub members : (place : ℕ) → is_in new.members place ≡ (is_in old.members place && not (option_map_or passes (slice_get quotas place) false))

-- ---- the acts that are due
-- of a quota that used so much before and uses so much now
abbrev pub used_acts : Option ℕ → Option ℕ → ℕ → ℕ → QuotaRow → List Act
used_acts before now run_limit moment quota = quota_acts (crosses None before now quota) run_limit moment quota

-- of a quota whose counter lost bytes and then gained others
abbrev pub gained_acts : List Counter → ℕ → ℕ → ℕ → ℕ → QuotaRow → List Act
gained_acts counters minus plus run_limit moment quota =
    used_acts (option_map (used_before minus plus) (used_in counters quota.folder)) (used_in counters quota.folder) run_limit moment quota

-- of the quotas at some places
abbrev pub acts_at : (QuotaRow → List Act) → List QuotaRow → List ℕ → List Act
acts_at acts quotas places = flat_map (λ place. option_map_or acts (slice_get quotas place) []) places

-- of quotas whose counters became these
abbrev pub counted_acts : List Counter → List Counter → ℕ → ℕ → List QuotaRow → List Act
counted_acts before now run_limit moment quotas =
    flat_map (λ quota. used_acts (used_in before quota.folder) (used_in now quota.folder) run_limit moment quota) quotas

-- ---- changes
-- a change takes no more from a counter than there is, and no more is given than taken where bytes move to another folder
pub record IsCovered (nodes : List NodeRow) (counters : List Counter) (change : Change) : Type 0 where
  pub small : (folder bytes : ℕ) → used_in counters folder ≡ Some bytes → bytes < 2 ^ 64
  pub held : (folder bytes : ℕ) → is_above nodes change.from folder ≡ true → used_in counters folder ≡ Some bytes → change.minus ≤ bytes
  pub even : (from to : ℕ) → change.from ≡ Some from → change.to ≡ Some to → (from == to) ≡ false → change.plus ≤ change.minus

-- whether a folder lost what a change gave it: it is at or above another folder from which bytes were taken
abbrev pub is_kept : List NodeRow → Change → ℕ → QuotaRow → Bool
is_kept nodes change to quota = option_map_or (λ from. not (from == to) && is_under nodes quota.folder from) change.from false
