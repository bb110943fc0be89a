use Rattle.std.proofs.Common.{◌≡◌, ◌+◌, ◌*◌, ◌≤◌, length, take}
use Rattle.std.specs.List.{flat_map}
use Rattle.image_codec.proofs.lengths.rows_len.Given as goal

abbrev pub invariant-loop-value : goal.invariant-loop-value
invariant-loop-value g l = record {
  exact : l.total ≡ 4 + length (flat_map g.M.Measured.spell (take l.value-index l.items));
  few : l.total ≤ 4 + l.value-index * g.M.Measured.most;
}
