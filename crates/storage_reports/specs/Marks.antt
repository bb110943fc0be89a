-- The nodes at and below a folder, marked by their numbers.
use Rattle.std.specs.Prelude.{◌≡◌, ℕ, ◌+◌, ◌==◌, ◌&&◌, Bool, true, false, List, Some, slice_index_or, if◌then◌else◌}
use Rattle.fsrm_base.specs.Keyed.{has_row}
use Rattle.fsrm_model.specs.declared.row.NodeRow.{NodeRow}
use Rattle.fsrm_model.specs.nodes.Tree.{number, is_under, node_of}
use Rattle.tree_walk.specs.Walk.{total}

-- whether a number is marked, and 1 for the node of a number
abbrev pub is_marked : List Bool → ℕ → Bool
is_marked marks n = slice_index_or marks n false

abbrev pub bit : Bool → ℕ
bit b = if b then 1 else 0

abbrev pub only : ℕ → NodeRow → ℕ
only n node = bit (node.number == n)

-- the nodes at and below a folder are those that are marked, or at or below a node that waits
pub record Marks (nodes : List NodeRow) (scope : ℕ) (waiting : List ℕ) (marks : List Bool) : Type 0 where
  pub there : (n : ℕ) → is_marked marks n ≡ true → has_row number n nodes ≡ true
  pub each : (n : ℕ) → has_row number n nodes ≡ true → bit (is_marked marks n) + total (only n) nodes waiting ≡ bit (is_under nodes scope n)

-- the marked numbers are those of the nodes at and below a folder
pub record AreBelow (nodes : List NodeRow) (scope : ℕ) (marks : List Bool) : Type 0 where
  pub there : (n : ℕ) → is_marked marks n ≡ true → has_row number n nodes ≡ true
  pub each : (n : ℕ) → has_row number n nodes ≡ true → is_marked marks n ≡ is_under nodes scope n

-- marked numbers are those of nodes
abbrev pub AreThere : List NodeRow → List Bool → Type 0
AreThere nodes marks = (n : ℕ) → is_marked marks n ≡ true → has_row number n nodes ≡ true

-- of the marks those are left whose nodes pass a test
abbrev pub IsLeft : List NodeRow → (NodeRow → Bool) → List Bool → List Bool → Type 0
IsLeft nodes test old new = (n : ℕ) (row : NodeRow) → node_of nodes n ≡ Some row → is_marked new n ≡ (is_marked old n && test row)
