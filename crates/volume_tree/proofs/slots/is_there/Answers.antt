use Rattle.std.proofs.Common.{◌∙◌}
use Rattle.node_order.proofs.SlotLaws.{there_is}
use Rattle.volume_tree.proofs.slots.is_there.Goals as goal

pub returns : goal.returns
returns c = c.is_taken.ensures ∙ there_is c.args.number c.args.slots.now.slots c.requires
