use Rattle.std.proofs.Common.{refl}
use Rattle.std.proofs.lemmas.Option.{slice_get_read}
use Rattle.reply_text.specs.Lines.{labelled_text}
use Rattle.line_parts.proofs.Each.{writes_one, writes_one_front}
use Rattle.line_parts.proofs.Sent.{passed_on}
use Rattle.reply_text.proofs.lines.write_each_labelled.Goals as goal

pub returns-in_err-write_labelled : goal.returns-in_err-write_labelled
returns-in_err-write_labelled g c =
    let texts = c.args.texts.now in
    let k = c.loop-text.text-index in
    let text = c.text-item.result in
    record {
      writes = passed_on c.from_residual.result c.from_residual.ensures.1
          (writes_one_front (labelled_text c.args.label.now) texts k text (slice_get_read texts _ k text refl c.loop-text-test.true c.text-item.is) g.met.S.Sink.write_then c.loop-text.invariant c.in_err-write_labelled.ensures.writes);
    }

pub loop-text-preserved : goal.loop-text-preserved
loop-text-preserved g c =
    let texts = c.args.texts.now in
    let k = c.loop-text.text-index in
    let text = c.text-item.result in
    writes_one (labelled_text c.args.label.now) texts k text (slice_get_read texts _ k text refl c.loop-text-test.true c.text-item.is) g.met.S.Sink.write_then c.loop-text.invariant c.in_ok-write_labelled.ensures.writes
