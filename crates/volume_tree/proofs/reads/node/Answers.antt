use Rattle.std.proofs.Common.{◌∙◌}
use Rattle.node_order.proofs.SlotLaws.{row_is, there_is}
use Rattle.volume_tree.proofs.reads.node.Goals as goal

pub node-requires : goal.node-requires
node-requires g c = there_is c.args.number c.args.slots.now.slots c.requires.slots ∙ c.requires.there

pub returns-clause-node : goal.returns-clause-node
returns-clause-node g c = row_is c.args.number c.args.slots.now.slots c.requires.slots ∙ c.node.ensures
