-- How nodes are found by their names: each stands in the order or is late, and the index leads to each late one.
use Rattle.std.specs.Prelude.{◌≡◌, ℕ, ◌<◌, ◌≤◌, ◌==◌, true, false, All, List, [], ◌++◌, ◌∷◌, length, map, Some, vec_capacity}
use Rattle.std.specs.List.Sorted.{IsPermutation}
use Rattle.fsrm_base.specs.Numbers.{is_in}
use Rattle.fsrm_model.specs.declared.row.NodeRow.{NodeRow}
use Rattle.fsrm_model.specs.nodes.Tree.{number, node_of}
use Rattle.fsrm_model.specs.values.Limits.{most_nodes}
use Rattle.fsrm_model.specs.values.Name.{same_name}
use Rattle.block_list.specs.Runs.{entries_of}
use Rattle.name_index.specs.Index.{Indexed}
use Rattle.name_index.specs.Hash.{name_hash}
use Rattle.name_index.specs.Index.{Holds, has_lost}
use Rattle.node_order.specs.declared.entries.Entry.{Entry}
use Rattle.node_order.specs.Entries.{AreOwn, IsOwn, Sequence, number_in}
use Rattle.node_order.specs.Order.{IsListed, inner}
use Rattle.volume_tree.specs.declared.register.Register.{Register}

-- no two nodes of one folder have one name
pub record AreApart (nodes : List NodeRow) : Type 0 where
  pub alone : (n m : ℕ) (r s : NodeRow) → node_of nodes n ≡ Some r → node_of nodes m ≡ Some s → (n == 0) ≡ false → (m == 0) ≡ false → s.parent ≡ r.parent → same_name s.name r.name ≡ true → m ≡ n

-- each node but the root stands in the order, or is late, or is one that is absent: one of these, and once
pub record AreEntered (nodes : List NodeRow) (absent : List ℕ) (order : Sequence) (late : List Entry) : Type 0 where
  pub listed : IsListed nodes (entries_of order.runs)
  pub entries : AreOwn nodes order
  pub own : All (IsOwn nodes) late
  pub members : IsPermutation (map number (inner nodes)) (absent ++ (entries_of order.runs ++ map number_in late))

-- the index holds a node under the hash of its name, but if it has lost some of this hash, perhaps only if the node is late
pub record IsFound (late : List Entry) (index : Indexed) (n : ℕ) (row : NodeRow) : Type 0 where
  pub held : has_lost index (name_hash row.parent row.name) ≡ false → Holds index (name_hash row.parent row.name) n
  pub waits : is_in (map number_in late) n ≡ true → Holds index (name_hash row.parent row.name) n

-- so each node but the root and those that are absent
pub record AreFound (nodes : List NodeRow) (absent : List ℕ) (late : List Entry) (index : Indexed) : Type 0 where
  pub each : (n : ℕ) (row : NodeRow) → node_of nodes n ≡ Some row → (n == 0) ≡ false → is_in absent n ≡ false → IsFound late index n row

-- a register has all nodes but the root and those that are absent, and room for these too
pub record IsRegister (nodes : List NodeRow) (absent : List ℕ) (register : Register) : Type 0 where
  pub entered : AreEntered nodes absent register.order register.late.items
  pub found : AreFound nodes absent register.late.items register.index
  pub room : length (inner nodes) < register.order.room
  pub reserved : register.order.room ≤ vec_capacity register.late
  pub few : register.order.room ≤ most_nodes

-- of entries in whatever order one of a number was taken out
pub record HasLeft (old new : List Entry) (n : ℕ) : Type 0 where
  pub entry : Entry
  pub node_is : entry.node ≡ n
  pub members : IsPermutation old (entry ∷ new)
