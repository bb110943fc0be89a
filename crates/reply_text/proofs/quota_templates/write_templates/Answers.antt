use Rattle.std.proofs.Common.{List, length, refl, ap, arith}
use Rattle.fsrm_model.specs.declared.row.TemplateRow.{TemplateRow}
use Rattle.reply_text.specs.Lines.{template_text}
use Rattle.line_parts.proofs.Each.{writes_all, writes_one, writes_one_front}
use Rattle.reply_text.proofs.TemplateLines.{all_templates}
use Rattle.line_parts.proofs.Sent.{passed_on, told}
use Rattle.reply_text.proofs.quota_templates.write_templates.Goals as goal

pub returns-in_err-write_template : goal.returns-in_err-write_template
returns-in_err-write_template g c =
    let e = c.args.engine.now in
    record {
      writes = passed_on c.from_residual.result c.from_residual.ensures.1
          (told (all_templates e.size e.rows e.rows.templates refl) (writes_one_front template_text e.rows.templates c.loop-place.place c.template_at.result.now (rw c.templates-templates.ensures.templates at c.template_at.ensures) g.met.S.Sink.write_then c.loop-place.invariant c.in_err-write_template.ensures.writes));
    }

pub returns : goal.returns
returns g c =
    let e = c.args.engine.now in
    let same = ap (λ (rows : List TemplateRow). length rows) c.templates-templates.ensures.templates in
    record {
      writes = told (all_templates e.size e.rows e.rows.templates refl) (writes_all template_text e.rows.templates c.loop-place.place (omega (arith, c.loop-place-test.false, c.template_count-place-end.ensures, same)) c.loop-place.invariant);
    }

pub loop-place-preserved : goal.loop-place-preserved
loop-place-preserved g c =
    let e = c.args.engine.now in
    writes_one template_text e.rows.templates c.loop-place.place c.template_at.result.now (rw c.templates-templates.ensures.templates at c.template_at.ensures) g.met.S.Sink.write_then c.loop-place.invariant c.in_ok-write_template.ensures.writes
