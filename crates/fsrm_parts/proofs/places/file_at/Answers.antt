use Rattle.std.proofs.Common.{sym}
use Rattle.fsrm_parts.proofs.walks.PlaceLaws.{file_found, has_resolved}
use Rattle.fsrm_parts.proofs.places.file_at.Goals as goal

pub node-view-requires : goal.node-view-requires
node-view-requires g c = has_resolved _ _ _ _ c.requires (sym c.in_ok-node.ensures.value)

pub returns-else-view-clause-file : goal.returns-else-view-clause-file
returns-else-view-clause-file g c =
    file_found c.args.tree.now.size c.args.tree.now.nodes _ _ _ c.requires c.in_ok-node.ensures.value c.node-view.ensures.view c.node-view.ensures.short c.if-view.false
