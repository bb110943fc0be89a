-- The way of a sum through a folder.
use Rattle.std.specs.Prelude.{◌≡◌, ℕ, true, List, [], ◌∷◌, length, sum_by}
use Rattle.fsrm_model.specs.declared.row.Capacity.{Capacity}
use Rattle.fsrm_model.specs.declared.row.NodeRow.{NodeRow}
use Rattle.fsrm_base.specs.Keyed.{has_row}
use Rattle.fsrm_model.specs.nodes.Tree.{number, usage, under}

-- what the files at and below these nodes take, and how many nodes there are
abbrev pub usage_of_all : Capacity → List NodeRow → List ℕ → ℕ
usage_of_all K nodes numbers = sum_by (usage K nodes) numbers

abbrev pub under_all : List NodeRow → List ℕ → ℕ
under_all nodes numbers = sum_by (λ n. length (under nodes n)) numbers

-- each of these nodes is there
abbrev pub AreThere : List NodeRow → List ℕ → Type 0
AreThere nodes [] = Unit {0}
AreThere nodes (n ∷ numbers) = (has_row number n nodes ≡ true) × AreThere nodes numbers
