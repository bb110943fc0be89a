use Rattle.volume_tree.specs.Kept.{rows_of}
use Rattle.volume_tree.specs.Sound.{AreMarks, Reaches}
use Rattle.volume_tree.proofs.rows.mark_way.Given as goal

abbrev pub invariant-loop-left : goal.invariant-loop-left
invariant-loop-left l = record {
  marks : AreMarks (rows_of l.slots.slots) l.marks;
  rooted : Reaches (rows_of l.slots.slots) l.at;
}

abbrev pub decreases-loop-left : goal.decreases-loop-left
decreases-loop-left l = l.left
