use Rattle.std.proofs.Common.{ap, ◌∙◌, IfErr, arith, rules}
use Rattle.std.proofs.lemmas.Result.{IfErr-weaker}
use Rattle.fsrm_base.specs.Keyed.{has_row, with_row}
use Rattle.fsrm_model.specs.values.Limits.{most_groups, most_text_bytes}
use Rattle.fsrm_model.specs.values.Patterns.{group_number, is_group}
use Rattle.fsrm_model.specs.values.Texts.{group_bytes}
use Rattle.file_groups.specs.Faults.{IsFault, group_fault}
use Rattle.stored_rows.proofs.Filled.{copied, fills}
use Rattle.stored_rows.proofs.Unrefused.{group_memory, group_unrefused}
use Rattle.stored_rows.proofs.group_rows.put_groups.Goals as goal

pub put-requires-clause-valid : goal.put-requires-clause-valid
put-requires-clause-valid c =
    let row = c.in_ok-copy.field-0 in
    (fills group_number is_group group_bytes most_groups c.args.rows.now c.loop-row.row-index row c.requires.rows (omega arith) (copied c.args.rows.now c.loop-row.row-index c.row-item.result row c.in_ok-copy.ensures c.row-item.is)).passes

pub put-requires-clause-free : goal.put-requires-clause-free
put-requires-clause-free c =
    let row = c.in_ok-copy.field-0 in
    ap (has_row group_number row.number) c.loop-row.invariant.came
    ∙ (fills group_number is_group group_bytes most_groups c.args.rows.now c.loop-row.row-index row c.requires.rows (omega arith) (copied c.args.rows.now c.loop-row.row-index c.row-item.result row c.in_ok-copy.ensures c.row-item.is)).free

pub returns-in_err-put-clause-only : goal.returns-in_err-put-clause-only
returns-in_err-put-clause-only c =
    let row = c.in_ok-copy.field-0 in
    let rows = c.args.rows.now in
    let i = c.loop-row.row-index in
    let f = fills group_number is_group group_bytes most_groups rows i row c.requires.rows (omega arith) (copied c.args.rows.now c.loop-row.row-index c.row-item.result row c.in_ok-copy.ensures c.row-item.is) in
    let due = group_fault c.loop-row.groups row most_text_bytes in
    let h : IfErr c.from_residual-in_err-put.result (λ fault. IsFault fault due) = search rules in
    IfErr-weaker c.from_residual-in_err-put.result (λ fault. IsFault fault due) _
    (λ fault is apart fits. group_memory fault due (group_unrefused rows c.loop-row.groups i row f c.loop-row.invariant.came apart fits) is) h

pub loop-row-preserved : goal.loop-row-preserved
loop-row-preserved c =
    let row = c.in_ok-copy.field-0 in
    let f = fills group_number is_group group_bytes most_groups c.args.rows.now c.loop-row.row-index row c.requires.rows (omega arith) (copied c.args.rows.now c.loop-row.row-index c.row-item.result row c.in_ok-copy.ensures c.row-item.is) in
    record {
      came = c.in_ok-put.ensures.ok ∙ (ap (with_row group_number row) c.loop-row.invariant.came ∙ f.put);
      are = c.put.ensures.kept;
    }
