use Rattle.line_parts.specs.Parts.{part_text}
use Rattle.reply_text.proofs.Quotas.{row_shown}
use Rattle.line_parts.proofs.Sent.{told}
use Rattle.reply_text.proofs.lists.write_line.Goals as goal

pub returns : goal.returns
returns g c =
    record {
      writes = told
          (row_shown c.args.quota.now c.args.used c.args.path.now c.as_bytes.result.now c.state_word.result.now c.type_word.result.now (part_text c.used_part.result) c.args.peak_at.now c.type_word.ensures c.state_word.ensures c.used_part.ensures c.requires c.as_bytes.ensures.value)
          c.send.ensures.writes;
    }
