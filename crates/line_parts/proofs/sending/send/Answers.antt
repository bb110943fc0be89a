use Rattle.std.proofs.lemmas.Option.{slice_get-get_or}
use Rattle.line_parts.specs.declared.sending.Part.TheVariants.{Number}
use Rattle.line_parts.specs.Parts.{part_text}
use Rattle.line_parts.proofs.Each.{writes_one_front}
use Rattle.line_parts.proofs.Sent.{passed_on}
use Rattle.line_parts.proofs.sending.send.Goals as goal

pub returns-in_err-send_part : goal.returns-in_err-send_part
returns-in_err-send_part g c =
    let parts = c.args.parts.now in
    let k = c.parts.part-index in
    record {
      writes = passed_on c.from_residual.result c.from_residual.ensures.1
          (writes_one_front part_text parts k _ (slice_get-get_or parts k (Number 0) c.parts-test.true) g.met.S.Sink.write_then c.parts.invariant c.in_err-send_part.ensures.writes);
    }
