use Rattle.std.proofs.Common.{◌∙◌}
use Rattle.reply_text.proofs.TemplateLines.{head_shown}
use Rattle.line_parts.proofs.Sent.{told}
use Rattle.reply_text.proofs.quota_templates.write_head.Goals as goal

pub returns : goal.returns
returns g c =
    record {
      writes = told
          (head_shown c.args.template.now c.type_word.result.now c.as_bytes.result.now c.type_word.ensures (c.as_bytes.ensures.value ∙ c.as_str.ensures))
          c.send.ensures.writes;
    }
