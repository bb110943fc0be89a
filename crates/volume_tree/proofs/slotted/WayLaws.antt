-- The parent of a node, from its slot.
use Rattle.std.proofs.Common.{◌≡◌, ℕ, List, Option, Some, None, refl, sym, ◌∙◌, ap, subst}
use Rattle.std.specs.Prelude.{option_map, unwrap_or}
use Rattle.std.specs.Option.{option_map_or}
use Rattle.fsrm_model.specs.declared.row.NodeRow.{NodeRow}
use Rattle.fsrm_model.specs.nodes.Tree.{parent_of}
use Rattle.fsrm_model.proofs.nodes.ChainLaws.{Has}
use Rattle.node_table.specs.Slots.{slot_at}
use Rattle.volume_tree.specs.Kept.{rows_of}
use Rattle.volume_tree.specs.Ways.{IsWay}
use Rattle.node_order.proofs.SlotLaws.{row_is}

pub parent_is : (slots : List (Option NodeRow)) (n up : ℕ) → IsWay slots n → option_map (λ (row : NodeRow). row.parent) (slot_at slots n) ≡ Some up → up ≡ parent_of (rows_of slots) n
parent_is slots n up w is =
    sym (ap (λ (o : Option ℕ). unwrap_or o 0) is) ∙ (parent_or (slot_at slots n) ∙ ap (λ (o : Option NodeRow). option_map_or (λ (row : NodeRow). row.parent) o 0) (sym (row_is n slots w.slots_are)))
  where
    parent_or : (o : Option NodeRow) → unwrap_or (option_map (λ (row : NodeRow). row.parent) o) 0 ≡ option_map_or (λ (row : NodeRow). row.parent) o 0
    parent_or None = refl
    parent_or (Some row) = refl

-- the way goes on from it
pub way_next : (slots : List (Option NodeRow)) (n up : ℕ) → IsWay slots n → up ≡ parent_of (rows_of slots) n → IsWay slots up
way_next slots n up w is = record {
  slots_are = w.slots_are;
  tree = w.tree;
  there = subst (Has (rows_of slots)) (sym is) (w.tree.closed n w.there);
}
