use Rattle.volume_tree.proofs.kept.HeldLaws.{held_settled}
use Rattle.volume_tree.proofs.late.Registers.{volume_apart}
use Rattle.volume_tree.proofs.tree.Tree.arrange_if_many.Goals as goal

pub arrange_if_many-requires-clause-apart : goal.arrange_if_many-requires-clause-apart
arrange_if_many-requires-clause-apart c = volume_apart c.self.inside.size _ c.self.invariant.kept.volume

pub invariant_of-self : goal.invariant_of-self
invariant_of-self c = held_settled _ _ _ _ _ c.self.inside.register _ c.self.invariant c.arrange_if_many.ensures.register c.arrange_if_many.ensures.room

pub returns-clause-same : goal.returns-clause-same
returns-clause-same c = c.self.view_is

pub returns-clause-kept : goal.returns-clause-kept
returns-clause-kept c = c.self.invariant.kept.volume
