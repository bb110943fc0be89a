-- What the frontier of a scan stands for.
use Rattle.std.specs.Prelude.{◌≡◌, ℕ, ◌+◌, ◌*◌, ◌≤◌, ◌&&◌, Bool, true, List, [], map, filter, length, Option, None, is_some, unwrap_or}
use Rattle.std.specs.Option.{option_map_or}
use Rattle.std.specs.List.{list_any}
use Rattle.fsrm_model.specs.declared.row.Capacity.{Capacity}
use Rattle.fsrm_model.specs.declared.row.NodeRow.{NodeRow}
use Rattle.fsrm_base.specs.Keyed.{with_change}
use Rattle.fsrm_base.specs.Numbers.{is_in}
use Rattle.fsrm_model.specs.objects.Scan.{AreUnvisited, is_topmost, counted}
use Rattle.fsrm_model.specs.nodes.Tree.{number, is_folder, chain, children}
use Rattle.fsrm_model.specs.store.Valid.{IsVolume}
use Rattle.volume_tree.specs.Volume.{Volume}

-- for which volumes a frontier is: how many nodes they have at most, and the bytes of their clusters
pub record Room : Type 0 where
  pub nodes : ℕ
  pub cluster : ℕ

-- A frontier: for which volumes it is, the folder of its scan, if one is active, the topmost unvisited folders, and
-- the bytes that are counted
pub record Front : Type 0 where
  pub room : Room
  pub folder : Option ℕ
  pub tops : List ℕ
  pub sum : ℕ

-- no scan is active
abbrev pub idle : Room → Front
idle room = record { room = room; folder = None; tops = []; sum = 0 }

-- whether a volume of this size is one of these
pub record Suits (size : Capacity) (room : Room) : Type 0 where
  pub nodes : size.nodes ≤ room.nodes
  pub cluster : size.cluster ≡ room.cluster

abbrev pub scanned : Front → ℕ
scanned front = unwrap_or front.folder 0

-- whether a node is at or below one of these
abbrev pub has_above : List NodeRow → List ℕ → ℕ → Bool
has_above nodes tops n = list_any (is_in tops) (chain nodes n)

-- the unvisited folders: those at and below the topmost ones
abbrev pub unvisited : List NodeRow → Front → List ℕ
unvisited nodes front = map number (filter (λ node. node.folder && has_above nodes front.tops node.number) nodes)

-- A frontier stands for its scan over the nodes of a volume: it knows which folders are unvisited, by those of them
-- whose parent isn't, and what is counted so far
pub record Stands (v : Volume) (front : Front) : Type 0 where
  pub volume : IsVolume v.size v.nodes
  pub fits : Suits v.size front.room
  pub active : is_some front.folder ≡ true
  pub folder : is_folder v.nodes (scanned front) ≡ true
  pub are : AreUnvisited v.nodes (scanned front) (unvisited v.nodes front)
  pub tops : front.tops ≡ filter (is_topmost v.nodes (unvisited v.nodes front)) (unvisited v.nodes front)
  pub sum : front.sum ≡ counted v.size v.nodes (scanned front) (unvisited v.nodes front)

-- a frontier goes on with its scan: it stands for it over these nodes, with these folders unvisited
pub record Follows (old new : Front) (v : Volume) (left : List ℕ) : Type 0 where
  pub stands : Stands v new
  pub unvisited_are : unvisited v.nodes new ≡ left
  pub folder : new.folder ≡ old.folder
  pub room : new.room ≡ old.room

-- the nodes with another length of one of them
abbrev pub of_length : ℕ → NodeRow → NodeRow
of_length bytes node = record node { length = bytes }

abbrev pub sized : Volume → ℕ → ℕ → Volume
sized v n bytes = record v { nodes = with_change number n (of_length bytes) v.nodes }

-- how many looks a visit may take: 2, and 2 for each child of the folder
abbrev pub visit_looks : List NodeRow → Option ℕ → ℕ
visit_looks nodes visited = option_map_or (λ n. 2 + 2 * length (children nodes n)) visited 0
