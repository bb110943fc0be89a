use Rattle.std.proofs.Common.{◌≡◌, true, take}
use Rattle.std.specs.List.{flat_map, list_all}
use Rattle.record_fields.specs.Writers.{Writes}
use Rattle.record_codec.proofs.typed.put_each.Given as goal

abbrev pub invariant-loop-value : goal.invariant-loop-value
invariant-loop-value g l = record {
  written : Writes l.fn.into l.fn.at l.into l.end (flat_map g.T.Typed.spell (take l.value-index l.values));
  typed : list_all g.T.Typed.typed (take l.value-index l.values) ≡ true;
}
