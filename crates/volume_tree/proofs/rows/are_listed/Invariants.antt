use Rattle.std.proofs.Common.{◌≡◌, drop}
use Rattle.volume_tree.specs.Sound.{are_from}
use Rattle.volume_tree.proofs.rows.are_listed.Given as goal

abbrev pub invariant-loop-row : goal.invariant-loop-row
invariant-loop-row l = record {
  rest : are_from 0 l.bound l.rows ≡ are_from l.next l.bound (drop l.row-index l.rows);
}
