-- The entries of nodes in the order of their places.
use Rattle.std.specs.Prelude.{◌≡◌, ℕ, ◌+◌, ◌-◌, ◌*◌, ◌^◌, ◌<◌, ◌≤◌, List, All, Contains, Some, length, map, slice_get}
use Rattle.std.specs.List.{slice_index_or}
use Rattle.fsrm_model.specs.declared.row.NodeRow.{NodeRow}
use Rattle.fsrm_model.specs.nodes.Tree.{node_of}
use Rattle.name_rules.specs.Prefix.{prefix}
use Rattle.block_list.specs.Runs.{entries_of}
use Rattle.node_order.specs.declared.entries.Entry.{Entry}

-- whose entry it is
abbrev pub number_in : Entry → ℕ
number_in entry = entry.node

-- the runs of a list of entries, as the numbers in them
abbrev pub numbers_in : List (List Entry) → List (List ℕ)
numbers_in runs = map (map number_in) runs

-- a list of entries: how many there may be at most, the numbers in its runs, and the entries
pub record Sequence : Type 0 where
  pub room : ℕ
  pub runs : List (List ℕ)
  pub entries : List Entry

-- the entry of a row: its number, and what tells in most cases where it stands in the order
abbrev pub entry_of : NodeRow → Entry
entry_of row = record { prefix = prefix row.name; parent = row.parent; node = row.number }

-- a folder and the prefix of a name in it as one number: the order of these is by folders, and in each by prefixes
abbrev pub place_key : ℕ → ℕ → ℕ
place_key folder front = folder * 2 ^ 64 + front

-- an entry is that of its node's row
pub record IsOwn (nodes : List NodeRow) (entry : Entry) : Type 0 where
  pub row : NodeRow
  pub found : node_of nodes entry.node ≡ Some row
  pub parent_is : entry.parent ≡ row.parent
  pub prefix_is : entry.prefix ≡ prefix row.name

-- all entries are, and stand in the runs
pub record AreOwn (nodes : List NodeRow) (order : Sequence) : Type 0 where
  pub numbers_are : entries_of order.runs ≡ map number_in order.entries
  pub each : All (IsOwn nodes) order.entries

-- the folder of the entry at a place in a run
abbrev pub parent_at : List Entry → ℕ → ℕ
parent_at entries place = (slice_index_or entries place (record { prefix = 0; parent = 0; node = 0 })).parent

-- the entry at a place is of a lower folder than this one
pub record IsLower (order : Sequence) (folder place : ℕ) : Type 0 where
  pub entry : Entry
  pub at : slice_get (entries_of order.runs) place ≡ Some entry.node
  pub listed : Contains order.entries entry
  pub lower : entry.parent < folder

-- it is not
pub record IsNotLower (order : Sequence) (folder place : ℕ) : Type 0 where
  pub entry : Entry
  pub at : slice_get (entries_of order.runs) place ≡ Some entry.node
  pub listed : Contains order.entries entry
  pub other : folder ≤ entry.parent

-- the place from which the entries are of this folder or greater ones
pub record IsFirst (order : Sequence) (folder place : ℕ) : Type 0 where
  pub lower : 0 < place → IsLower order folder (place - 1)
  pub other : place < length (entries_of order.runs) → IsNotLower order folder place
