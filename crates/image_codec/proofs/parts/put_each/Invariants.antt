use Rattle.std.proofs.Common.{◌≡◌, true, take}
use Rattle.std.specs.List.{flat_map, list_all}
use Rattle.record_fields.specs.Writers.{Writes}
use Rattle.image_codec.proofs.parts.put_each.Given as goal

abbrev pub invariant-loop-value : goal.invariant-loop-value
invariant-loop-value g l = record {
  written : Writes l.fn.into l.at l.into l.end (flat_map g.P.Part.format.spell (take l.value-index l.values));
  legal : list_all g.P.Part.meets (take l.value-index l.values) ≡ true → list_all g.P.Part.format.legal (take l.value-index l.values) ≡ true;
}
