use Rattle.std.proofs.Common.{◌≡◌, map, drop}
use Rattle.fsrm_model.specs.nodes.Tree.{number}
use Rattle.volume_tree.specs.Late.{IsRegister}
use Rattle.volume_tree.specs.Twins.{AreApartBut}
use Rattle.volume_tree.proofs.rows.register_of.Given as goal

abbrev pub invariant-loop-row : goal.invariant-loop-row
invariant-loop-row l = record {
  register : IsRegister l.rows (map number (drop l.row-index l.others)) l.register;
  room : l.register.order.room ≡ l.most;
  apart : AreApartBut l.rows (map number (drop l.row-index l.others));
}
