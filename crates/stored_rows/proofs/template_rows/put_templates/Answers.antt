use Rattle.std.proofs.Common.{List, [], ap, ◌∙◌, IfErr, arith, rules}
use Rattle.std.proofs.lemmas.Result.{IfErr-weaker}
use Rattle.fsrm_base.specs.Keyed.{has_row}
use Rattle.fsrm_model.specs.declared.row.TemplateRow.{TemplateRow}
use Rattle.fsrm_model.specs.objects.Templates.{is_template, template_number}
use Rattle.fsrm_model.specs.values.Limits.{most_templates, most_text_bytes}
use Rattle.fsrm_model.specs.values.Texts.{template_bytes}
use Rattle.templates.specs.Faults.{IsFault, template_fault}
use Rattle.templates.specs.Held.{Held, with_template}
use Rattle.stored_rows.proofs.Filled.{copied, fills}
use Rattle.stored_rows.proofs.Unrefused.{template_memory, template_unrefused}
use Rattle.stored_rows.proofs.template_rows.put_templates.Goals as goal

pub put-requires-clause-valid : goal.put-requires-clause-valid
put-requires-clause-valid c =
    let row = c.in_ok-copy.field-0 in
    (fills template_number is_template template_bytes most_templates c.args.rows.now c.loop-row.row-index row c.requires.rows (omega arith) (copied c.args.rows.now c.loop-row.row-index c.row-item.result row c.in_ok-copy.ensures c.row-item.is)).passes

pub put-requires-clause-free : goal.put-requires-clause-free
put-requires-clause-free c =
    let row = c.in_ok-copy.field-0 in
    ap (λ (h : Held). has_row template_number row.number h.templates) c.loop-row.invariant
    ∙ (fills template_number is_template template_bytes most_templates c.args.rows.now c.loop-row.row-index row c.requires.rows (omega arith) (copied c.args.rows.now c.loop-row.row-index c.row-item.result row c.in_ok-copy.ensures c.row-item.is)).free

pub returns-in_err-put-clause-only : goal.returns-in_err-put-clause-only
returns-in_err-put-clause-only c =
    let row = c.in_ok-copy.field-0 in
    let rows = c.args.rows.now in
    let i = c.loop-row.row-index in
    let f = fills template_number is_template template_bytes most_templates rows i row c.requires.rows (omega arith) (copied c.args.rows.now c.loop-row.row-index c.row-item.result row c.in_ok-copy.ensures c.row-item.is) in
    let due = template_fault c.loop-row.tables row most_text_bytes in
    let h : IfErr c.from_residual-in_err-put.result (λ fault. IsFault fault due) = search rules in
    IfErr-weaker c.from_residual-in_err-put.result (λ fault. IsFault fault due) _
    (λ fault is apart fits. template_memory fault due (template_unrefused rows c.loop-row.tables i row f (ap (λ (h : Held). h.templates) c.loop-row.invariant) apart fits) is) h

pub loop-row-preserved : goal.loop-row-preserved
loop-row-preserved c =
    let row = c.in_ok-copy.field-0 in
    let f = fills template_number is_template template_bytes most_templates c.args.rows.now c.loop-row.row-index row c.requires.rows (omega arith) (copied c.args.rows.now c.loop-row.row-index c.row-item.result row c.in_ok-copy.ensures c.row-item.is) in
    c.in_ok-put.ensures.ok ∙ (ap (λ (h : Held). with_template h row) c.loop-row.invariant ∙ ap (λ (ts : List TemplateRow). record { templates = ts; autos = [] }) f.put)
