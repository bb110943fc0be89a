use Rattle.fsrm_model.proofs.nodes.Keeps.{tree_of}
use Rattle.quota_usage.proofs.usage.Usage.charge.Goals as goal

pub charge-requires-clause-tree : goal.charge-requires-clause-tree
charge-requires-clause-tree g c = tree_of c.args.tree.now.size c.args.tree.now.nodes c.requires.volume
