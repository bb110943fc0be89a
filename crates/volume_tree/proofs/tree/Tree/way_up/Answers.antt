use Rattle.std.proofs.Common.{ap, ◌∙◌}
use Rattle.fsrm_base.specs.Keyed.{has_row}
use Rattle.fsrm_model.specs.nodes.Tree.{number}
use Rattle.fsrm_model.proofs.nodes.Keeps.{tree_of}
use Rattle.volume_tree.specs.Volume.{Volume}
use Rattle.volume_tree.proofs.tree.Tree.way_up.Goals as goal

pub from-requires : goal.from-requires
from-requires c = record {
  slots_are = c.self.invariant.kept.slots_are;
  tree = tree_of c.self.inside.size _ c.self.invariant.kept.volume;
  there = ap (λ (v : Volume). has_row number c.args.node v.nodes) c.self.view_is ∙ c.requires;
}
