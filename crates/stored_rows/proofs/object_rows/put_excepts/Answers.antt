use Rattle.std.proofs.Common.{List, ap, ◌∙◌, IfErr, arith, rules}
use Rattle.std.proofs.lemmas.Result.{IfErr-weaker}
use Rattle.fsrm_model.specs.declared.row.ExceptRow.{ExceptRow}
use Rattle.fsrm_model.specs.objects.Screens.{except_folder}
use Rattle.fsrm_model.specs.values.Limits.{most_excepts}
use Rattle.fsrm_objects.specs.Tables.{IsFault, Tables, except_fault, with_except}
use Rattle.stored_rows.specs.Rows.{are_some_groups}
use Rattle.stored_rows.proofs.Filled.{copied, fills}
use Rattle.stored_rows.proofs.Unrefused.{except_unrefused, object_memory}
use Rattle.stored_rows.proofs.object_rows.put_excepts.Goals as goal

pub returns-in_err-add_except-clause-only : goal.returns-in_err-add_except-clause-only
returns-in_err-add_except-clause-only c =
    let row = c.in_ok-copy.field-0 in
    let rows = c.args.rows.now in
    let i = c.loop-row.row-index in
    let f = fills except_folder (λ (except : ExceptRow). are_some_groups except.groups) (λ (except : ExceptRow). 0) most_excepts rows i row c.requires.rows (omega arith) (copied c.args.rows.now c.loop-row.row-index c.row-item.result row c.in_ok-copy.ensures c.row-item.is) in
    let due = except_fault c.loop-row.tables row in
    let h : IfErr c.from_residual-in_err-add_except.result (λ fault. IsFault fault due) = search rules in
    IfErr-weaker c.from_residual-in_err-add_except.result (λ fault. IsFault fault due) _
    (λ fault is. object_memory fault due (except_unrefused rows c.loop-row.tables i row f (ap (λ (t : Tables). t.excepts) c.loop-row.invariant) (ap (λ (t : Tables). t.screens) c.loop-row.invariant ∙ c.requires.no_screens)) is) h

pub loop-row-preserved : goal.loop-row-preserved
loop-row-preserved c =
    let row = c.in_ok-copy.field-0 in
    let f = fills except_folder (λ (except : ExceptRow). are_some_groups except.groups) (λ (except : ExceptRow). 0) most_excepts c.args.rows.now c.loop-row.row-index row c.requires.rows (omega arith) (copied c.args.rows.now c.loop-row.row-index c.row-item.result row c.in_ok-copy.ensures c.row-item.is) in
    c.in_ok-add_except.ensures.ok ∙ (ap (λ (t : Tables). with_except t row) c.loop-row.invariant ∙ ap (λ (es : List ExceptRow). record c.args.tables.now { excepts = es }) f.put)
