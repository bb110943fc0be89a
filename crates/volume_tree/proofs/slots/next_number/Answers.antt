use Rattle.std.proofs.Common.{◌∙◌}
use Rattle.volume_tree.proofs.slotted.HoleLaws.{least_is, none_is}
use Rattle.volume_tree.proofs.slots.next_number.Goals as goal

pub returns-in-Some : goal.returns-in-Some
returns-in-Some c = least_is c.args.slots.now.slots c.args.holes.now.members c.in-Some.number c.requires.slots c.requires.holes c.in-Some.ensures

pub returns-in-None : goal.returns-in-None
returns-in-None c = c.len.ensures.len ∙ none_is c.args.slots.now.slots c.args.holes.now.members c.requires.slots c.requires.holes c.in-None.ensures
