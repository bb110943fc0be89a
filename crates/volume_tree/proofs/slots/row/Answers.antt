use Rattle.std.proofs.Common.{sym, ◌∙◌}
use Rattle.node_order.proofs.SlotLaws.{row_is}
use Rattle.volume_tree.proofs.slots.row.Goals as goal

pub returns : goal.returns
returns c = c.get.ensures ∙ sym (row_is c.args.number c.args.slots.now.slots c.requires)
