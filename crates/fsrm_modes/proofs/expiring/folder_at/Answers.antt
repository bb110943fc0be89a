use Rattle.std.proofs.Common.{List, subst, sym}
use Rattle.fsrm_model.specs.declared.row.NodeRow.{NodeRow}
use Rattle.fsrm_model.specs.store.Valid.{IsVolume}
use Rattle.fsrm_parts.proofs.walks.PlaceLaws.{has_resolved}
use Rattle.fsrm_modes.proofs.expiring.folder_at.Goals as goal

pub node-requires : goal.node-requires
node-requires g c =
    has_resolved c.args.engine.now.size c.tree-tree.result.now.nodes _ _ (subst (λ (ns : List NodeRow). IsVolume c.args.engine.now.size ns) (sym c.tree-tree.ensures.nodes) c.tree-tree.ensures.volume) (sym c.in_ok-node.ensures.value)
