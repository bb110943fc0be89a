use Rattle.std.proofs.Common.{◌∙◌, arith, ap, take, ℕ}
use Rattle.record_fields.proofs.WriterLaws.{put_writes}
use Rattle.record_fields.proofs.writer.put_front.Goals as goal

pub returns : goal.returns
returns c = put_writes c.args.into.now c.copy_from_slice.new.self c.args.bytes.now c.args.at c.min-count.result c.requires c.min-count.ensures (c.copy_from_slice.ensures.after ∙ ap (λ (k : ℕ). take k c.args.bytes.now) (omega arith))
