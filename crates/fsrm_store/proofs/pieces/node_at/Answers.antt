use Rattle.fsrm_store.proofs.EnginePieceLaws.{view_lent}
use Rattle.fsrm_store.proofs.pieces.node_at.Goals as goal

pub returns-clause-row : goal.returns-clause-row
returns-clause-row g c = view_lent c.node-node.result c.args.tree.now.nodes c.args.number c.node-node.ensures.view
