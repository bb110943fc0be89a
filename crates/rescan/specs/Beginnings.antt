-- How a scan begins.
use Rattle.std.specs.Prelude.{◌≡◌, ℕ, true, [], Option, Some, None}
use Rattle.fsrm_model.specs.objects.Scan.{folders_under}
use Rattle.fsrm_model.specs.nodes.Tree.{is_folder}
use Rattle.fsrm_model.specs.store.Valid.{IsVolume}
use Rattle.rescan.specs.Frontiers.{Front, Room, Follows, Suits}
use Rattle.volume_tree.specs.Volume.{Volume}

-- A scan of the folder at the head of a queue has begun, if there is one: over any volume that fits, all folders at
-- and below it are unvisited
pub record Begins (room : Room) (head : Option ℕ) (front : Front) : Type 0 where
  pub folder : front.folder ≡ head
  pub room_is : front.room ≡ room
  pub idle : head ≡ None → front.tops ≡ []
  pub follows : (v : Volume) (folder : ℕ) → head ≡ Some folder → IsVolume v.size v.nodes → Suits v.size room → is_folder v.nodes folder ≡ true → Follows front front v (folders_under v.nodes folder)
