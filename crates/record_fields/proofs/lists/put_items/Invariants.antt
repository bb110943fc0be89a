use Rattle.std.proofs.Common.{take}
use Rattle.std.specs.List.{flat_map}
use Rattle.record_fields.specs.Writers.{Writes}
use Rattle.record_fields.proofs.lists.put_items.Given as goal

abbrev pub invariant-loop-value : goal.invariant-loop-value
invariant-loop-value g l = Writes l.fn.into l.fn.at l.into l.end (flat_map g.F.Field.format.spell (take l.value-index l.values))
