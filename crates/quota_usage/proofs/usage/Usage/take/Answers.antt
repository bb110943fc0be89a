use Rattle.fsrm_model.proofs.nodes.Keeps.{tree_of}
use Rattle.quota_usage.proofs.usage.Usage.take.Goals as goal

pub take-requires-clause-tree : goal.take-requires-clause-tree
take-requires-clause-tree g c = tree_of c.args.tree.now.size c.args.tree.now.nodes c.requires.volume
