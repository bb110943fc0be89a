use Rattle.std.proofs.Common.{◌∙◌, ap}
use Rattle.fsrm_base.specs.Keyed.{has_row}
use Rattle.fsrm_model.specs.nodes.Tree.{number}
use Rattle.volume_tree.specs.Volume.{Volume}
use Rattle.volume_tree.proofs.tree.Tree.live.Goals as goal

pub returns : goal.returns
returns c = c.is_there.ensures ∙ ap (λ (v : Volume). has_row number c.args.node v.nodes) c.self.view_is
