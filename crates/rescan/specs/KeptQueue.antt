-- What a queue of scans keeps by itself.
use Rattle.std.specs.Prelude.{◌≡◌, ℕ, ◌<◌, ◌≤◌, true, List, [], None}
use Rattle.std.specs.Global.{Vec}
use Rattle.std.specs.Vec.{vec_capacity}
use Rattle.fsrm_base.specs.Numbers.{is_in, each_once}
use Rattle.fsrm_model.specs.values.Limits.{most_quotas}
use Rattle.fsrm_model.specs.objects.QuotaStates.{head}
use Rattle.rescan.specs.Frontiers.{Front}

-- Each folder waits once and is within the frontier's room; the active scan is of the folder at the head, and without
-- one nothing is unvisited
pub record IsKeptQueue (queue : List ℕ) (front : Front) : Type 0 where
  pub once : each_once queue ≡ true
  pub active : front.folder ≡ head queue
  pub idle : front.folder ≡ None → front.tops ≡ []
  pub within : (folder : ℕ) → is_in queue folder ≡ true → folder < front.room.nodes

-- and there is memory for all that may wait
pub record IsKeptScans (queue : Vec ℕ) (front : Front) : Type 0 where
  pub kept : IsKeptQueue queue.items front
  pub memory : most_quotas ≤ vec_capacity queue
