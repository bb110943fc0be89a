use Rattle.std.proofs.Common.{ℕ, List, slice_index, length, ap, sym, ◌∙◌, arith}
use Rattle.fsrm_base.specs.Keyed.{has_row}
use Rattle.fsrm_model.specs.declared.row.QuotaRow.{QuotaRow}
use Rattle.fsrm_model.specs.nodes.Tree.{usage}
use Rattle.quota_usage.specs.declared.change.Counter.{Counter}
use Rattle.quota_usage.specs.Counters.{counted, with_counter}
use Rattle.fsrm_parts.proofs.tables.BeginLaws.{begins, mapped_at}
use Rattle.fsrm_parts.proofs.sums.begin_counters.Goals as goal
use Rattle.fsrm_parts.proofs.sums.begin_counters.Goals.{then-counts, else-counts}

pub begin-requires-clause-room : goal.begin-requires-clause-room
begin-requires-clause-room c =
    let b = begins c.args.tree.now.size c.args.tree.now.nodes c.args.objects.now.quotas c.loop-place.place c.quota_at-quota.result.now c.quota_count-place-end.ensures.kept c.quota_at-quota.ensures in
    omega (arith, ap length c.loop-place.invariant, b.room)

pub begin-requires-clause-free : goal.begin-requires-clause-free
begin-requires-clause-free c =
    let quota = c.quota_at-quota.result.now in
    let b = begins c.args.tree.now.size c.args.tree.now.nodes c.args.objects.now.quotas c.loop-place.place quota c.quota_count-place-end.ensures.kept c.quota_at-quota.ensures in
    ap (has_row counted quota.folder) c.loop-place.invariant ∙ b.free

pub loop-place-preserved : goal.loop-place-preserved
loop-place-preserved c =
    let K = c.args.tree.now.size in
    let nodes = c.args.tree.now.nodes in
    let quotas = c.args.objects.now.quotas in
    let quota = c.quota_at-quota.result.now in
    let b = begins K nodes quotas c.loop-place.place quota c.quota_count-place-end.ensures.kept c.quota_at-quota.ensures in
    let bytes = ap (λ (xs : List ℕ). slice_index xs c.loop-place.place) c.requires.sums ∙ mapped_at (λ (q : QuotaRow). usage K nodes q.folder) quotas c.loop-place.place quota c.quota_at-quota.ensures in
    elim c.if-counts.branch [
      | then-counts w ↦
          w.counters-is
          ∙ (w.begin.ensures
          ∙ (ap (λ (x : ℕ). with_counter c.loop-place.counters quota.folder x) bytes
          ∙ (ap (λ (cs : List Counter). with_counter cs quota.folder (usage K nodes quota.folder)) c.loop-place.invariant ∙ b.begun (sym c.counts.ensures ∙ w.if-counts.true))))
      | else-counts w ↦ w.counters-is ∙ (c.loop-place.invariant ∙ b.passed (sym c.counts.ensures ∙ w.if-counts.false))
    ]
