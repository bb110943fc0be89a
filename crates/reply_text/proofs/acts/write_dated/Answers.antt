use Rattle.std.proofs.Common.{◌∙◌}
use Rattle.line_parts.specs.Parts.{part_text}
use Rattle.reply_text.proofs.ActLines.{entry_shown}
use Rattle.line_parts.proofs.Sent.{told}
use Rattle.reply_text.proofs.acts.write_dated.Goals as goal

pub returns : goal.returns
returns g c =
    let parts = c.subject_parts.result in
    record {
      writes = told
          (entry_shown c.args.entry.now c.args.moment.now (part_text parts.0) (part_text parts.1) (part_text parts.2) c.as_bytes-kind.result.now c.from.result
          c.requires c.subject_parts.ensures c.from.ensures (c.as_bytes-kind.ensures.value ∙ c.letter.ensures))
          c.send.ensures.writes;
    }
