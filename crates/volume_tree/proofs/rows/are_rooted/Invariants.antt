use Rattle.std.proofs.Common.{ℕ, ◌<◌, get_or}
use Rattle.fsrm_model.specs.declared.row.NodeRow.{NodeRow}
use Rattle.volume_tree.specs.Sound.{AreMarks, Reaches}
use Rattle.volume_tree.proofs.rows.are_rooted.Given as goal

abbrev pub invariant-loop-row : goal.invariant-loop-row
invariant-loop-row l = record {
  marks : AreMarks l.rows l.marks.items;
  done : (k : ℕ) (d : NodeRow) → k < l.row-index → Reaches l.rows (get_or l.rows k d).number;
}
