use Rattle.std.proofs.Common.{◌≡◌, ◌-◌}
use Rattle.record_fields.specs.Formats.{items_at}
use Rattle.record_fields.specs.Pieces.{with_front}
use Rattle.record_fields.proofs.lists.read_items.Given as goal

abbrev pub invariant-loop : goal.invariant-loop
invariant-loop g l = with_front l.items (items_at g.F.Field.format (l.count - l.counter) l.reader) ≡ items_at g.F.Field.format l.count l.fn.reader
