use Rattle.fsrm_model.proofs.nodes.Keeps.{tree_of}
use Rattle.volume_tree.proofs.tree.Tree.is_at_or_below.Goals as goal

pub is_at_or_below-requires-clause-tree : goal.is_at_or_below-requires-clause-tree
is_at_or_below-requires-clause-tree g c = tree_of c.self.inside.size _ c.self.invariant.kept.volume
