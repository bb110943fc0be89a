-- How a tree's fields hold its nodes.
use Rattle.std.specs.Prelude.{[], ◌≡◌, ℕ, ◌+◌, ◌<◌, ◌≤◌, ◌==◌, ◌&&◌, ◌||◌, nat_lt, not, Bool, true, false, List, length, map, filter, take, drop, slice_get, Option, Some, IfNone, IfSome, OnSome}
use Rattle.std.specs.List.{AllPairs, between}
use Rattle.std.specs.List.Sorted.{IsPermutation}
use Rattle.std.specs.Option.{option_map_or}
use Rattle.fsrm_model.specs.declared.row.Capacity.{Capacity}
use Rattle.fsrm_model.specs.declared.row.NodeRow.{NodeRow}
use Rattle.fsrm_model.specs.store.Capacities.{is_capacity}
use Rattle.block_list.specs.declared.place.Place.{Place}
use Rattle.block_list.specs.Places.{index_of}
use Rattle.block_list.specs.Runs.{entries_of, run_at}
use Rattle.fsrm_model.specs.values.Name.{name_before, same_name}
use Rattle.fsrm_base.specs.Keyed.{has_row}
use Rattle.fsrm_base.specs.Numbers.{is_in, is_set}
use Rattle.fsrm_model.specs.nodes.Tree.{number, node_of, children_in_order, name_bytes}
use Rattle.fsrm_model.specs.store.Valid.{IsVolume}
pub use Rattle.node_table.specs.Slots.{rows_of, IsSlot, AreSlots}
use Rattle.node_table.specs.Table.{Table}
use Rattle.number_set.specs.Numbers.{Numbers}
use Rattle.volume_tree.specs.Late.{IsRegister}
use Rattle.volume_tree.specs.declared.register.Register.{Register}

-- whether a slot is empty
abbrev pub is_hole : List (Option NodeRow) → ℕ → Bool
is_hole slots n = nat_lt n (length slots) && not (has_row number n (rows_of slots))

-- the numbers of all empty slots, ascending
pub record AreHoles (slots : List (Option NodeRow)) (holes : List ℕ) : Type 0 where
  pub set : is_set holes ≡ true
  pub members : (n : ℕ) → is_in holes n ≡ is_hole slots n

-- how many nodes and bytes of names there are, the empty slots, the slots, and the register of all nodes
pub record IsKept (K : Capacity) (count used : ℕ) (holes : Numbers) (slots : List (Option NodeRow)) (register : Register) : Type 0 where
  pub volume : IsVolume K (rows_of slots)
  pub size : is_capacity K ≡ true
  pub slots_are : AreSlots 0 slots
  pub count_is : count ≡ length (rows_of slots)
  pub used_is : used ≡ name_bytes (rows_of slots)
  pub bound_is : holes.bound ≡ K.nodes
  pub holes_are : AreHoles slots holes.members
  pub register_is : IsRegister (rows_of slots) [] register
  pub room_is : register.order.room ≡ K.nodes

-- the same, where the slots are those of a table with the volume's bounds
pub record IsHeld (K : Capacity) (count used : ℕ) (holes : Numbers) (table : Table) (register : Register) : Type 0 where
  pub nodes_are : table.nodes ≡ K.nodes
  pub names_are : table.names ≡ K.names
  pub kept : IsKept K count used holes table.slots register

-- a table with the volume's bounds has these rows
pub record IsFilled (K : Capacity) (rows : List NodeRow) (table : Table) : Type 0 where
  pub nodes_are : table.nodes ≡ K.nodes
  pub names_are : table.names ≡ K.names
  pub slots_are : AreSlots 0 table.slots
  pub rows_are : rows_of table.slots ≡ rows
  pub fit : length table.slots ≤ K.nodes

-- so many numbers from a place in runs on
abbrev pub numbers_from : List (List ℕ) → Place → ℕ → List ℕ
numbers_from runs place left = take left (drop (index_of runs place) (entries_of runs))

-- so many are there, and if there is one, the place is at the beginning of a run or before an entry of it
pub record IsLeft (runs : List (List ℕ)) (place : Place) (left : ℕ) : Type 0 where
  pub within : index_of runs place + left ≤ length (entries_of runs)
  pub run : 0 < left → place.run < length runs
  pub offset : 0 < left → 0 < place.offset → place.offset < length (run_at runs place.run)
