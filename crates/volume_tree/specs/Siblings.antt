-- The children of a folder that are still to be lent.
use Rattle.std.specs.Prelude.{◌≡◌, ℕ, ◌<◌, ◌&&◌, Bool, true, false, List, [], ◌∷◌, filter, map, Option, Some, None}
use Rattle.std.specs.Option.{option_map_or}
use Rattle.block_list.specs.declared.place.Place.{Place}
use Rattle.fsrm_model.specs.declared.row.NodeRow.{NodeRow}
use Rattle.fsrm_model.specs.values.Name.{name_before}
use Rattle.fsrm_model.specs.nodes.Tree.{number, node_of, name_of, is_child, children_in_order}
use Rattle.node_order.specs.declared.entries.Entry.{Entry}
use Rattle.node_order.specs.Entries.{number_in}
use Rattle.volume_tree.specs.Kept.{AreSlots, IsLeft, numbers_from, rows_of}
use Rattle.volume_tree.specs.Late.{AreApart}
use Rattle.volume_tree.specs.declared.children.Sought.{Sought}

-- whether a name comes after a child's; each does, if no child is given
abbrev pub comes_after : List NodeRow → Option ℕ → List ℕ → Bool
comes_after nodes last name = option_map_or (λ n. name_before (name_of nodes n) name) last true

-- the numbers of a folder's children that come after one of them, in the order of their folded names
abbrev pub numbers_after : List NodeRow → ℕ → Option ℕ → List ℕ
numbers_after nodes folder last = map number (filter (λ node. comes_after nodes last node.name) (children_in_order nodes folder))

-- whether a number is that of such a child
abbrev pub is_after : List NodeRow → ℕ → Option ℕ → ℕ → Bool
is_after nodes folder last n = option_map_or (λ row. is_child folder row && comes_after nodes last row.name) (node_of nodes n) false

-- of those of them that have numbers below a bound, the first one
pub record IsNext (nodes : List NodeRow) (folder : ℕ) (last : Option ℕ) (bound : ℕ) (next : Option ℕ) : Type 0 where
  pub none : next ≡ None → (k : ℕ) → k < bound → is_after nodes folder last k ≡ false
  pub after : (n : ℕ) → next ≡ Some n → is_after nodes folder last n ≡ true
  pub first : (n k : ℕ) → next ≡ Some n → k < bound → is_after nodes folder last k ≡ true → name_before (name_of nodes k) (name_of nodes n) ≡ false

-- the nodes of a table, no two of one folder with one name
pub record AreSought (slots : List (Option NodeRow)) : Type 0 where
  pub slots_are : AreSlots 0 slots
  pub apart : AreApart (rows_of slots)

-- the numbers that are still to be lent: those that stand from a place on, or those that are sought
abbrev pub still_left : Option Sought → List (List ℕ) → Place → ℕ → List ℕ
still_left None runs place left = numbers_from runs place left
still_left (Some s) runs place left = numbers_after (rows_of s.slots.now.slots) s.folder s.last

-- they are there
abbrev pub AreLeft : Option Sought → List (List ℕ) → Place → ℕ → Type 0
AreLeft None runs place left = IsLeft runs place left
AreLeft (Some s) runs place left = AreSought s.slots.now.slots

-- the numbers of some siblings: those in entries, or only one
abbrev pub siblings_of : Option ℕ → List Entry → List ℕ
siblings_of None entries = map number_in entries
siblings_of (Some n) entries = n ∷ []
