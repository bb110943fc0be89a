use Rattle.std.proofs.Common.{ℕ, List, subst}
use Rattle.record_fields.specs.Writers.{Writes}
use Rattle.record_fields.proofs.WriterLaws.{writes_then}
use Rattle.record_codec.proofs.EntryWriting.{body_spelled, in_front}
use Rattle.record_codec.proofs.encoding.put_order.Goals as goal

pub returns-clause-written : goal.returns-clause-written
returns-clause-written c = in_front c.args.into.now c.put_deed.new.into c.put_deed.result c.requires (writes_then c.put_u64-at.ensures
    (subst (λ (t : List ℕ). Writes c.put_u64-at.new.into c.put_u64-at.result c.put_deed.new.into c.put_deed.result t) (body_spelled c.args.command.now.deed) c.put_deed.ensures.written))
