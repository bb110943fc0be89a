use Rattle.std.proofs.Common.{List, ap, ◌∙◌, IfErr, arith, rules}
use Rattle.std.proofs.lemmas.Result.{IfErr-weaker}
use Rattle.fsrm_model.specs.declared.row.AutoRow.{AutoRow}
use Rattle.fsrm_model.specs.objects.AutoApply.{auto_folder}
use Rattle.fsrm_model.specs.values.Limits.{most_autos, most_text_bytes}
use Rattle.fsrm_model.specs.values.Texts.{auto_bytes}
use Rattle.templates.specs.Faults.{IsFault, auto_fault}
use Rattle.templates.specs.Held.{Held, with_auto}
use Rattle.stored_rows.specs.Rows.{is_tied_auto}
use Rattle.stored_rows.proofs.Filled.{copied, fills}
use Rattle.stored_rows.proofs.Unrefused.{auto_unrefused, template_memory}
use Rattle.stored_rows.proofs.template_rows.put_autos.Goals as goal

pub returns-in_err-add_auto-clause-only : goal.returns-in_err-add_auto-clause-only
returns-in_err-add_auto-clause-only c =
    let row = c.in_ok-copy.field-0 in
    let rows = c.args.rows.now in
    let i = c.loop-row.row-index in
    let templates = c.args.tables.now.templates in
    let f = fills auto_folder (is_tied_auto templates) auto_bytes most_autos rows i row c.requires.rows (omega arith) (copied c.args.rows.now c.loop-row.row-index c.row-item.result row c.in_ok-copy.ensures c.row-item.is) in
    let due = auto_fault c.loop-row.tables row most_text_bytes in
    let h : IfErr c.from_residual-in_err-add_auto.result (λ fault. IsFault fault due) = search rules in
    IfErr-weaker c.from_residual-in_err-add_auto.result (λ fault. IsFault fault due) _
    (λ fault is fits. template_memory fault due (auto_unrefused templates rows c.loop-row.tables i row f (ap (λ (h : Held). h.autos) c.loop-row.invariant) fits) is) h

pub loop-row-preserved : goal.loop-row-preserved
loop-row-preserved c =
    let row = c.in_ok-copy.field-0 in
    let f = fills auto_folder (is_tied_auto c.args.tables.now.templates) auto_bytes most_autos c.args.rows.now c.loop-row.row-index row c.requires.rows (omega arith) (copied c.args.rows.now c.loop-row.row-index c.row-item.result row c.in_ok-copy.ensures c.row-item.is) in
    c.in_ok-add_auto.ensures.ok ∙ (ap (λ (h : Held). with_auto h row) c.loop-row.invariant ∙ ap (λ (autos : List AutoRow). record c.args.tables.now { autos = autos }) f.put)
