use Rattle.std.proofs.Common.{refl}
use Rattle.reply_text.proofs.TemplateLines.{template_shown}
use Rattle.line_parts.proofs.Sent.{cut_first, passed_on, two_texts}
use Rattle.reply_text.proofs.quota_templates.write_template.Goals as goal

pub returns-in_err-write_head : goal.returns-in_err-write_head
returns-in_err-write_head g c =
    let template = c.args.template.now in
    record {
      writes = passed_on c.from_residual.result c.from_residual.ensures.1
          (cut_first _ (template_shown template template.thresholds refl) c.in_err-write_head.ensures.writes);
    }

pub returns : goal.returns
returns g c =
    record {
      writes = two_texts g.met.S.Sink.write_then
          (template_shown c.args.template.now c.as_slice.result.now c.as_slice.ensures)
          c.in_ok-write_head.ensures.writes c.write_thresholds.ensures.writes;
    }
