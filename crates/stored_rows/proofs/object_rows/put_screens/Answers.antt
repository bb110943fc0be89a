use Rattle.std.proofs.Common.{List, ap, ◌∙◌, IfErr, subst, sym, arith, rules}
use Rattle.std.proofs.lemmas.Result.{IfErr-weaker}
use Rattle.fsrm_model.specs.declared.row.ExceptRow.{ExceptRow}
use Rattle.fsrm_model.specs.declared.row.ScreenRow.{ScreenRow}
use Rattle.fsrm_model.specs.objects.Screens.{screen_folder}
use Rattle.fsrm_model.specs.values.Limits.{most_screens, most_text_bytes}
use Rattle.fsrm_objects.specs.Tables.{IsFault, Tables, screen_bytes, screen_fault, with_screen}
use Rattle.stored_rows.specs.Rows.{is_alone_screen}
use Rattle.stored_rows.proofs.Filled.{Fills, copied, fills}
use Rattle.stored_rows.proofs.Unrefused.{object_memory, screen_short, screen_unrefused}
use Rattle.stored_rows.proofs.object_rows.put_screens.Goals as goal

pub add_screen-requires : goal.add_screen-requires
add_screen-requires c =
    let row = c.in_ok-copy.field-0 in
    let excepts = c.args.tables.now.excepts in
    screen_short excepts row (fills screen_folder (is_alone_screen excepts) screen_bytes most_screens c.args.rows.now c.loop-row.row-index row c.requires.rows (omega arith) (copied c.args.rows.now c.loop-row.row-index c.row-item.result row c.in_ok-copy.ensures c.row-item.is)).passes

pub returns-in_err-add_screen-clause-only : goal.returns-in_err-add_screen-clause-only
returns-in_err-add_screen-clause-only c =
    let row = c.in_ok-copy.field-0 in
    let rows = c.args.rows.now in
    let i = c.loop-row.row-index in
    let f = fills screen_folder (is_alone_screen c.args.tables.now.excepts) screen_bytes most_screens rows i row c.requires.rows (omega arith) (copied c.args.rows.now c.loop-row.row-index c.row-item.result row c.in_ok-copy.ensures c.row-item.is) in
    let own : Fills screen_folder (is_alone_screen c.loop-row.tables.excepts) screen_bytes most_screens rows i row =
    subst (λ (es : List ExceptRow). Fills screen_folder (is_alone_screen es) screen_bytes most_screens rows i row) (sym (ap (λ (t : Tables). t.excepts) c.loop-row.invariant)) f in
    let due = screen_fault c.loop-row.tables row most_text_bytes in
    let h : IfErr c.from_residual-in_err-add_screen.result (λ fault. IsFault fault due) = search rules in
    IfErr-weaker c.from_residual-in_err-add_screen.result (λ fault. IsFault fault due) _
    (λ fault is fits. object_memory fault due (screen_unrefused rows c.loop-row.tables i row own (ap (λ (t : Tables). t.screens) c.loop-row.invariant) fits) is) h

pub loop-row-preserved : goal.loop-row-preserved
loop-row-preserved c =
    let row = c.in_ok-copy.field-0 in
    let f = fills screen_folder (is_alone_screen c.args.tables.now.excepts) screen_bytes most_screens c.args.rows.now c.loop-row.row-index row c.requires.rows (omega arith) (copied c.args.rows.now c.loop-row.row-index c.row-item.result row c.in_ok-copy.ensures c.row-item.is) in
    c.in_ok-add_screen.ensures.ok ∙ (ap (λ (t : Tables). with_screen t row) c.loop-row.invariant ∙ ap (λ (ss : List ScreenRow). record c.args.tables.now { screens = ss }) f.put)
