use Rattle.std.proofs.Common.{List, ap, ◌∙◌, IfErr, arith, rules}
use Rattle.std.proofs.lemmas.Result.{IfErr-weaker}
use Rattle.fsrm_model.specs.declared.row.QuotaRow.{QuotaRow}
use Rattle.fsrm_model.specs.objects.Quota.{folder_of}
use Rattle.fsrm_model.specs.objects.Thresholds.{are_thresholds}
use Rattle.fsrm_model.specs.values.Limits.{most_quotas, most_text_bytes}
use Rattle.fsrm_model.specs.values.Texts.{quota_bytes}
use Rattle.fsrm_objects.specs.Tables.{IsFault, Tables, quota_fault, with_quota}
use Rattle.stored_rows.proofs.Filled.{copied, fills}
use Rattle.stored_rows.proofs.Unrefused.{object_memory, quota_short, quota_unrefused}
use Rattle.stored_rows.proofs.object_rows.put_quotas.Goals as goal

pub add_quota-requires : goal.add_quota-requires
add_quota-requires c =
    let row = c.in_ok-copy.field-0 in
    quota_short row (fills folder_of (λ (quota : QuotaRow). are_thresholds quota.thresholds) quota_bytes most_quotas c.args.rows.now c.loop-row.row-index row c.requires.rows (omega arith) (copied c.args.rows.now c.loop-row.row-index c.row-item.result row c.in_ok-copy.ensures c.row-item.is)).passes

pub returns-in_err-add_quota-clause-only : goal.returns-in_err-add_quota-clause-only
returns-in_err-add_quota-clause-only c =
    let row = c.in_ok-copy.field-0 in
    let rows = c.args.rows.now in
    let i = c.loop-row.row-index in
    let f = fills folder_of (λ (quota : QuotaRow). are_thresholds quota.thresholds) quota_bytes most_quotas rows i row c.requires.rows (omega arith) (copied c.args.rows.now c.loop-row.row-index c.row-item.result row c.in_ok-copy.ensures c.row-item.is) in
    let due = quota_fault c.loop-row.tables row most_text_bytes in
    let h : IfErr c.from_residual-in_err-add_quota.result (λ fault. IsFault fault due) = search rules in
    IfErr-weaker c.from_residual-in_err-add_quota.result (λ fault. IsFault fault due) _
    (λ fault is fits. object_memory fault due (quota_unrefused rows c.loop-row.tables i row f (ap (λ (t : Tables). t.quotas) c.loop-row.invariant) fits) is) h

pub loop-row-preserved : goal.loop-row-preserved
loop-row-preserved c =
    let row = c.in_ok-copy.field-0 in
    let f = fills folder_of (λ (quota : QuotaRow). are_thresholds quota.thresholds) quota_bytes most_quotas c.args.rows.now c.loop-row.row-index row c.requires.rows (omega arith) (copied c.args.rows.now c.loop-row.row-index c.row-item.result row c.in_ok-copy.ensures c.row-item.is) in
    c.in_ok-add_quota.ensures.ok ∙ (ap (λ (t : Tables). with_quota t row) c.loop-row.invariant ∙ ap (λ (qs : List QuotaRow). record c.args.tables.now { quotas = qs }) f.put)
