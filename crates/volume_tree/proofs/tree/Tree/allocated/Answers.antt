use Rattle.fsrm_model.proofs.valid.CapacityLaws.{cluster_is}
use Rattle.volume_tree.proofs.tree.Tree.allocated.Goals as goal

pub allocated-requires-clause-cluster : goal.allocated-requires-clause-cluster
allocated-requires-clause-cluster c = cluster_is c.self.inside.size c.self.invariant.kept.size
