-- What is left of the way up from a node to the root.
use Rattle.std.specs.Prelude.{◌≡◌, ℕ, Bool, true, List, Option, if◌then◌else◌}
use Rattle.fsrm_base.specs.Keyed.{has_row}
use Rattle.fsrm_model.specs.declared.row.NodeRow.{NodeRow}
use Rattle.fsrm_model.specs.nodes.Tree.{above, chain, number}
use Rattle.fsrm_model.proofs.nodes.ChainLaws.{IsTree}
use Rattle.volume_tree.specs.Kept.{AreSlots, rows_of}

-- the nodes that are left if this node was lent last, or isn't lent yet
abbrev pub left : List NodeRow → ℕ → Bool → List ℕ
left nodes n lent = if lent then above nodes n else chain nodes n

-- the slots hold a tree, of which this is a node
pub record IsWay (slots : List (Option NodeRow)) (n : ℕ) : Type 0 where
  pub slots_are : AreSlots 0 slots
  pub tree : IsTree (rows_of slots)
  pub there : has_row number n (rows_of slots) ≡ true
