use Rattle.std.proofs.Common.{rules, [], ◌∷◌, Some, refl, sym, ◌∙◌, ap, subst, arith}
use Rattle.fsrm_model.specs.nodes.Fresh.{root_node}
use Rattle.fsrm_model.proofs.valid.CapacityLaws.{nodes_most}
use Rattle.number_set.specs.Numbers.{Numbers}
use Rattle.node_table.specs.Table.{Table}
use Rattle.volume_tree.specs.Kept.{IsHeld}
use Rattle.volume_tree.proofs.kept.HeldLaws.{nodes_least}
use Rattle.volume_tree.proofs.tree.Tree.reserve.Goals as goal

pub root_alone-requires : goal.root_alone-requires
root_alone-requires c = let least = nodes_least c.args.size c.requires in omega (arith, least)

pub reserve-requires-2 : goal.reserve-requires-2
reserve-requires-2 c = nodes_most c.args.size c.requires

pub invariant_of-result : goal.invariant_of-result
invariant_of-result c =
    let least = nodes_least c.args.size c.requires in
    let slots : Table = record { nodes = c.args.size.nodes; names = c.args.size.names; slots = Some root_node ∷ [] } in
    subst (λ (table : Table). IsHeld c.args.size 1 0 c.in_ok-holes.holes table c.in_ok-register.register) (sym c.in_ok-slots.ensures)
    (subst (λ (holes : Numbers). IsHeld c.args.size 1 0 holes slots c.in_ok-register.register) (sym c.in_ok-holes.ensures)
    (record {
      nodes_are = refl;
      names_are = refl;
      kept = record {
        volume = search rules;
        size = c.requires;
        slots_are = search rules;
        count_is = refl;
        used_is = search rules;
        bound_is = refl;
        holes_are = search rules;
        register_is = c.in_ok-register.ensures.empty (root_node ∷ []) (omega (arith, least));
        room_is = c.in_ok-register.ensures.room;
      };
    }))
