use Rattle.std.proofs.Common.{◌∙◌}
use Rattle.reply_text.proofs.LabelledLines.{labelled_shown}
use Rattle.line_parts.proofs.Sent.{told}
use Rattle.reply_text.proofs.lines.write_labelled.Goals as goal

pub returns : goal.returns
returns g c =
    record {
      writes = told
          (labelled_shown c.args.label.now c.args.text.now c.as_bytes.result.now (c.as_bytes.ensures.value ∙ c.as_str.ensures))
          c.send.ensures.writes;
    }
