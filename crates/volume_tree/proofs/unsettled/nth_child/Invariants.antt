use Rattle.std.proofs.Common.{◌≡◌, None, drop}
use Rattle.volume_tree.specs.Kept.{rows_of}
use Rattle.volume_tree.specs.Siblings.{numbers_after}
use Rattle.volume_tree.proofs.unsettled.nth_child.Given as goal

abbrev pub invariant-loop-rank : goal.invariant-loop-rank
invariant-loop-rank l = numbers_after (rows_of l.slots.slots) l.folder l.last ≡ drop l._rank (numbers_after (rows_of l.slots.slots) l.folder None)
