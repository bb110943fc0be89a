use Rattle.volume_tree.specs.Kept.{rows_of}
use Rattle.volume_tree.specs.Siblings.{IsNext}
use Rattle.volume_tree.proofs.unsettled.next_child.Given as goal

abbrev pub invariant-loop-number : goal.invariant-loop-number
invariant-loop-number l = IsNext (rows_of l.slots.slots) l.folder l.last l.number l.next
