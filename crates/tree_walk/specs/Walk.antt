-- A walk: the nodes at and below some nodes, each once.
use Rattle.std.specs.Prelude.{◌≡◌, ◌⊎◌, ℕ, ◌+◌, ◌<◌, Bool, true, false, List, Some, sum_by, map, [], if◌then◌else◌}
use Rattle.std.specs.List.{AllByRecursion}
use Rattle.fsrm_base.specs.Keyed.{has_row}
use Rattle.fsrm_model.specs.declared.row.NodeRow.{NodeRow}
use Rattle.fsrm_model.specs.nodes.Tree.{number, node_of, children_in_order, is_under, under}

-- each of these nodes is there
abbrev pub AreThere : List NodeRow → List ℕ → Type 0
AreThere nodes numbers = AllByRecursion (λ n. has_row number n nodes ≡ true) numbers

-- what is at and below these nodes comes to in some measure
abbrev pub total : (NodeRow → ℕ) → List NodeRow → List ℕ → ℕ
total measure nodes numbers = sum_by (λ n. sum_by measure (under nodes n)) numbers

-- and how many nodes there are
abbrev pub one : NodeRow → ℕ
one node = 1

abbrev pub left : List NodeRow → List ℕ → ℕ
left nodes numbers = total one nodes numbers

-- the children of a node, by their numbers; and those that wait in place of a node: none of a file
abbrev pub inside : List NodeRow → ℕ → List ℕ
inside nodes n = map number (children_in_order nodes n)

abbrev pub inside_if : Bool → List NodeRow → ℕ → List ℕ
inside_if folder nodes n = if folder then inside nodes n else []

-- A node was taken out of what waits, and no other: by every measure what waits became less by that node.
pub record Takes (nodes : List NodeRow) (old new : List ℕ) (row : NodeRow) : Type 0 where
  pub found : node_of nodes row.number ≡ Some row
  pub there : AreThere nodes new
  pub each : (measure : NodeRow → ℕ) → total measure nodes old ≡ measure row + total measure nodes new

-- ---- a walk that doesn't enter one folder
-- a node is this folder, or isn't below it
abbrev pub IsOutside : List NodeRow → ℕ → ℕ → Type 0
IsOutside nodes closed n = (n ≡ closed) ⊎ (is_under nodes closed n ≡ false)

abbrev pub AreOutside : List NodeRow → ℕ → List ℕ → Type 0
AreOutside nodes closed numbers = AllByRecursion (λ n. IsOutside nodes closed n) numbers

-- a measure by which what is at and below a folder comes to nothing
pub record Ignores (nodes : List NodeRow) (closed : ℕ) (measure : NodeRow → ℕ) : Type 0 where
  pub nothing : (node : NodeRow) → is_under nodes closed node.number ≡ true → measure node ≡ 0

-- A node was taken out of what waits, and what is below the closed folder with it, if it is this one: by every measure that ignores
-- that folder what waits became less by that node.
pub record TakesOutside (nodes : List NodeRow) (closed : ℕ) (old new : List ℕ) (row : NodeRow) : Type 0 where
  pub found : node_of nodes row.number ≡ Some row
  pub there : AreThere nodes new
  pub apart : IsOutside nodes closed row.number
  pub outside : AreOutside nodes closed new
  pub each : (measure : NodeRow → ℕ) → Ignores nodes closed measure → total measure nodes old ≡ measure row + total measure nodes new
  pub fewer : left nodes new < left nodes old
