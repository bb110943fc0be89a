-- The queue of scans, and how far the active one has come.
use Rattle.std.specs.Prelude.{◌≡◌, ℕ, true, List, None, is_some, if◌then◌else◌, []}
use Rattle.std.specs.Option.{option_map_or}
use Rattle.fsrm_model.specs.declared.row.NodeRow.{NodeRow}
use Rattle.fsrm_base.specs.Numbers.{is_in}
use Rattle.fsrm_model.specs.objects.QuotaStates.{head, same_head, scan_begun}
use Rattle.fsrm_model.specs.nodes.Tree.{is_folder}
use Rattle.fsrm_model.specs.store.Valid.{IsVolume}
use Rattle.rescan.specs.Frontiers.{Front, Stands, Suits, unvisited}
use Rattle.volume_tree.specs.Volume.{Volume}

-- the folders whose scans wait, the active one's first, and the frontier of the active one
pub record Course : Type 0 where
  pub queue : List ℕ
  pub front : Front

-- what the active scan has still to visit
abbrev pub left : List NodeRow → Course → List ℕ
left nodes course = unvisited nodes course.front

-- The scan of the folder at the head of the queue is the active one, over the nodes of a volume; if the queue is
-- empty there is none
pub record Scanning (v : Volume) (course : Course) : Type 0 where
  pub volume : IsVolume v.size v.nodes
  pub fits : Suits v.size course.front.room
  pub folders : (folder : ℕ) → is_in course.queue folder ≡ true → is_folder v.nodes folder ≡ true
  pub active : course.front.folder ≡ head course.queue
  pub stands : is_some course.front.folder ≡ true → Stands v course.front
  pub idle : course.front.folder ≡ None → course.front.tops ≡ []

-- The scans go on over the nodes of this volume: the queue is as it was, and what the active scan has still to visit
-- is this, for the folder that it scans
pub record Goes (old new : Course) (v : Volume) (next : ℕ → List ℕ) : Type 0 where
  pub scanning : Scanning v new
  pub queue : new.queue ≡ old.queue
  pub left_is : left v.nodes new ≡ option_map_or next (head old.queue) []

-- The queue has changed, and a scan begins if another folder came to its head
pub record Turns (old new : Course) (v : Volume) : Type 0 where
  pub scanning : Scanning v new
  pub left_is : left v.nodes new ≡ (if same_head old.queue new.queue then left v.nodes old else scan_begun v.nodes new.queue)
