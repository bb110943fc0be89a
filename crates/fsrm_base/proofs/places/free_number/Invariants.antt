use Rattle.std.proofs.Common.{◌≡◌, drop}
use Rattle.fsrm_base.specs.Keyed.{least_free, least_free_from}
use Rattle.fsrm_base.proofs.places.free_number.Given as goal

abbrev pub invariant-loop-row : goal.invariant-loop-row
invariant-loop-row g l = record {
  passed : l.number ≡ l.row-index;
  left : least_free_from g.K.Key.key l.number (drop l.row-index l.rows) ≡ least_free g.K.Key.key l.rows;
}
