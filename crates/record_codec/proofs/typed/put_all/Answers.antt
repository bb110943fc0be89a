use Rattle.std.proofs.Common.{sym, refl}
use Rattle.record_codec.proofs.TypedLaws.{list_written}
use Rattle.record_codec.proofs.typed.put_all.Goals as goal

pub returns-clause-written : goal.returns-clause-written
returns-clause-written g c =
    list_written g.T.Typed.spell c.args.values.now c.as_slice.result.now _ c.len.result c.len.ensures (sym c.as_slice.ensures) refl c.put_u16-after.ensures c.put_each.ensures.written
