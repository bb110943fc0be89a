use Rattle.volume_tree.proofs.late.Registers.{volume_apart}
use Rattle.volume_tree.proofs.tree.Tree.child.Goals as goal

pub child-requires-clause-apart : goal.child-requires-clause-apart
child-requires-clause-apart g c = volume_apart c.self.inside.size _ c.self.invariant.kept.volume
