use Rattle.std.proofs.Common.{sym}
use Rattle.fsrm_parts.proofs.walks.PlaceLaws.{has_resolved}
use Rattle.fsrm_parts.proofs.places.folder_at.Goals as goal

pub node-requires : goal.node-requires
node-requires g c = has_resolved _ _ _ _ c.requires (sym c.in_ok-node.ensures.value)
