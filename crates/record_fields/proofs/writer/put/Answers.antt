use Rattle.std.proofs.Common.{◌∙◌, sym, arith, length}
use Rattle.std.proofs.lemmas.List.{take_all}
use Rattle.record_fields.proofs.WriterLaws.{put_writes}
use Rattle.record_fields.proofs.writer.put.Goals as goal

pub returns : goal.returns
returns c =
    let bytes = c.args.bytes.now in
    put_writes c.args.into.now c.copy_from_slice.new.self bytes c.args.at (length bytes) c.requires (omega arith) (c.copy_from_slice.ensures.after ∙ sym (take_all (length bytes) bytes (omega arith)))
