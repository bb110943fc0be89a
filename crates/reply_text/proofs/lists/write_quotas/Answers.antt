use Rattle.std.proofs.Common.{◌+◌, arith}
use Rattle.std.proofs.lemmas.List.Sums.{sum_by-take-le}
use Rattle.fsrm_model.specs.declared.row.QuotaRow.{QuotaRow}
use Rattle.fsrm_model.specs.commands.Cost.{path_cost}
use Rattle.fsrm_model.specs.objects.Quota.{folder_of}
use Rattle.reply_text.specs.Lines.{lines_text}
use Rattle.line_parts.proofs.Each.{writes_one, writes_one_front}
use Rattle.line_parts.proofs.Sent.{passed_on}
use Rattle.reply_text.proofs.Quotas.{at_place, sum_more}
use Rattle.reply_text.proofs.lists.write_quotas.Goals as goal

pub write_quota-requires-clause-own : goal.write_quota-requires-clause-own
write_quota-requires-clause-own g c =
    let quotas = c.args.engine.now.rows.quotas in
    at_place folder_of quotas c.loop-place.place c.quota_at.result.now c.objects-objects.ensures.store.quotas.ascending (rw c.objects-objects.ensures.quotas at c.quota_at.ensures)

pub returns-in_err-write_quota-clause-writes : goal.returns-in_err-write_quota-clause-writes
returns-in_err-write_quota-clause-writes g c =
    let engine = c.args.engine.now in
    passed_on c.from_residual.result c.from_residual.ensures.1
    (writes_one_front (lines_text engine.size engine.rows.nodes) engine.rows.quotas c.loop-place.place c.quota_at.result.now (rw c.objects-objects.ensures.quotas at c.quota_at.ensures) g.met.S.Sink.write_then c.loop-place.invariant.writes c.in_err-write_quota.ensures.writes)

pub returns-in_err-write_quota-clause-looks : goal.returns-in_err-write_quota-clause-looks
returns-in_err-write_quota-clause-looks g c =
    let nodes = c.args.engine.now.rows.nodes in
    let quotas = c.args.engine.now.rows.quotas in
    omega (arith, c.loop-place.invariant.looks, c.in_err-write_quota.ensures.looks, sum_more (λ quota. path_cost nodes quota.folder) quotas c.loop-place.place c.quota_at.result.now (rw c.objects-objects.ensures.quotas at c.quota_at.ensures), sum_by-take-le (λ (quota : QuotaRow). path_cost nodes quota.folder) quotas (c.loop-place.place + 1))

pub loop-place-preserved : goal.loop-place-preserved
loop-place-preserved g c =
    let engine = c.args.engine.now in
    let nodes = c.args.engine.now.rows.nodes in
    let quotas = c.args.engine.now.rows.quotas in
    record {
      writes = writes_one (lines_text engine.size nodes) quotas c.loop-place.place c.quota_at.result.now (rw c.objects-objects.ensures.quotas at c.quota_at.ensures) g.met.S.Sink.write_then c.loop-place.invariant.writes c.in_ok-write_quota.ensures.writes;
      looks = omega (arith, c.loop-place.invariant.looks, c.in_ok-write_quota.ensures.looks, sum_more (λ quota. path_cost nodes quota.folder) quotas c.loop-place.place c.quota_at.result.now (rw c.objects-objects.ensures.quotas at c.quota_at.ensures));
    }
