-- What a walk that sums folders up has still to do.
use Rattle.std.specs.Prelude.{◌≡◌, ℕ, ◌+◌, ◌<◌, ◌==◌, ◌++◌, Bool, false, List, [], ◌∷◌, length, map, slice_get, Some}
use Rattle.std.specs.List.{list_any}
use Rattle.std.specs.Option.{option_map_or}
use Rattle.fsrm_base.specs.Keyed.{has_row}
use Rattle.fsrm_base.specs.Places.{IsAt}
use Rattle.fsrm_model.specs.declared.row.Capacity.{Capacity}
use Rattle.fsrm_model.specs.declared.row.NodeRow.{NodeRow}
use Rattle.fsrm_model.specs.declared.row.QuotaRow.{QuotaRow}
use Rattle.fsrm_model.specs.nodes.Tree.{children_in_order, is_under, number, usage}
use Rattle.fsrm_model.specs.objects.Quota.{folder_of}
use Rattle.rescan.specs.Visits.{folders_among}
use Rattle.fsrm_parts.specs.Walk.{usage_of_all}
use Rattle.fsrm_parts.specs.declared.sums.Task.{Task}
use Rattle.fsrm_parts.specs.declared.sums.Task.TheVariants.{End, Visit}

-- folders that are to be visited, as tasks, and those that tasks visit
abbrev pub visits_of : List ℕ → List Task
visits_of folders = map (λ folder. Visit folder) folders

abbrev pub folders_of : List Task → List ℕ
folders_of [] = []
folders_of (Visit folder ∷ tasks) = folder ∷ folders_of tasks
folders_of (End place before ∷ tasks) = folders_of tasks

-- how many sums they end
abbrev pub end_count : List Task → ℕ
end_count [] = 0
end_count (Visit folder ∷ tasks) = end_count tasks
end_count (End place before ∷ tasks) = 1 + end_count tasks

-- tasks with one more, which ends the sum of a folder's quota, if it has one
pub data Ends (quotas : List QuotaRow) (folder before : ℕ) (old new : List Task) : Type 0 where
  Without : has_row folder_of folder quotas ≡ false → new ≡ old → Ends quotas folder before old new
  With : (place : ℕ) → IsAt folder_of folder quotas place → new ≡ old ++ End place before ∷ [] → Ends quotas folder before old new

-- tasks after a visit of a folder, before which so much was counted: its sum ends after the folders in it
pub record Enters (quotas : List QuotaRow) (nodes : List NodeRow) (folder before : ℕ) (old new : List Task) : Type 0 where
  pub mid : List Task
  pub ends : Ends quotas folder before old mid
  pub put : new ≡ mid ++ visits_of (folders_among nodes (map number (children_in_order nodes folder)))

-- what the folder of the quota at a place uses
abbrev pub sum_at : Capacity → List NodeRow → List QuotaRow → ℕ → ℕ
sum_at K nodes quotas place = option_map_or (λ quota. usage K nodes quota.folder) (slice_get quotas place) 0

-- each sum that is to be ended comes to what its folder uses, once the folders are visited that come after it
abbrev pub AreDue : Capacity → List NodeRow → List QuotaRow → ℕ → List Task → Type 0
AreDue K nodes quotas total [] = Unit {0}
AreDue K nodes quotas total (Visit folder ∷ tasks) = AreDue K nodes quotas total tasks
AreDue K nodes quotas total (End place before ∷ tasks) =
    (place < length quotas) × (before + sum_at K nodes quotas place ≡ total + usage_of_all K nodes (folders_of tasks)) × AreDue K nodes quotas total tasks

-- whether the sum of the quota at a place, which is this folder's, is still to be ended, or its folder to be visited
abbrev pub is_for : List NodeRow → ℕ → ℕ → Task → Bool
is_for nodes place folder (Visit top) = is_under nodes top folder
is_for nodes place folder (End k before) = k == place

-- each other quota has its sum
abbrev pub AreSummed : Capacity → List NodeRow → List QuotaRow → List Task → List ℕ → Type 0
AreSummed K nodes quotas tasks sums =
    (place : ℕ) (quota : QuotaRow) → slice_get quotas place ≡ Some quota → list_any (is_for nodes place quota.folder) tasks ≡ false → slice_get sums place ≡ Some (usage K nodes quota.folder)
