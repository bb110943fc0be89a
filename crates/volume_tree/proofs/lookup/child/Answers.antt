use Rattle.node_order.proofs.SlotRows.{slots_ascend}
use Rattle.volume_tree.specs.Kept.{rows_of}
use Rattle.volume_tree.proofs.late.Named.{has_child_number}
use Rattle.volume_tree.proofs.lookup.child.Goals as goal

pub returns-in-Some-clause-ok : goal.returns-in-Some-clause-ok
returns-in-Some-clause-ok g c = has_child_number (rows_of c.args.slots.now.slots) c.args.folder c.args.name.now c.in-Some.number (slots_ascend c.args.slots.now.slots c.requires.slots) c.requires.apart c.in-Some.ensures.named
