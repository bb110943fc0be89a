use Rattle.std.proofs.Common.{◌≡◌, ◌<◌, List, ◌++◌, length, sym, ◌∙◌, ap, subst, arith, slice_get}
use Rattle.std.proofs.lemmas.List.{length-map}
use Rattle.std.proofs.lemmas.Option.{same_Some, slice_get_within}
use Rattle.std.specs.Prelude.{map}
use Rattle.std.specs.Option.{option_copied}
use Rattle.fsrm_base.proofs.SortedRows.{there}
use Rattle.fsrm_model.specs.declared.row.QuotaRow.{QuotaRow}
use Rattle.fsrm_model.specs.declared.row.Threshold.{Threshold}
use Rattle.fsrm_model.specs.objects.Runs.{run_quota, run_threshold}
use Rattle.fsrm_objects.specs.Tables.{Tables}
use Rattle.thresholds.specs.Settled.{Settles, crosses, has_orderly_lists, ready_in}
use Rattle.thresholds.proofs.OrderLaws.{orderly, at_passes, percents_ascend}
use Rattle.thresholds.proofs.RunSteps.{orderly_now, row_now}
use Rattle.thresholds.proofs.SettleLaws.{settles_both, settles_none}
use Rattle.thresholds.proofs.Steps.{due_upto, due_none, due_all, few_thresholds, threshold_there, crosses_there, crossed_more, uncrossed_more, found_at}
use Rattle.thresholds.proofs.marks.Marks.settle.Goals.{then-crosses, else-crosses}
use Rattle.thresholds.proofs.marks.Marks.settle.Goals as goal

pub overflow_cast-count : goal.overflow_cast-count
overflow_cast-count c =
    let quotas = c.args.objects.now.quotas in
    let row = c.quota_at.result.now in
    omega (arith, c.len-count.ensures, few_thresholds row (at_passes has_orderly_lists quotas c.unwrap-quota.result row (orderly quotas c.requires.orderly).lists c.quota_at.ensures))

pub loop-threshold-init : goal.loop-threshold-init
loop-threshold-init c =
    let marks = c.args.self.now in
    let tables = c.args.objects.now in
    let found = found_at tables.quotas c.args.folder c.unwrap-quota.result c.quota_at.result.now c.quota_place.result c.quota_place.ensures.place c.unwrap-quota.ensures c.quota_at.ensures in
    record {
      settled = subst (Settles marks marks tables tables c.args.moment) (sym (due_none tables (option_copied c.args.before) c.args.used_before c.args.used_after c.args.run_limit c.args.moment c.args.folder c.quota_at.result.now found))
          (settles_none marks tables c.args.moment c.kept.ensures.few c.requires.marked);
      sorted = c.kept.ensures.sorted;
    }

pub threshold_at-requires : goal.threshold_at-requires
threshold_at-requires c =
    let tables = c.args.objects.now in
    let row = c.quota_at.result.now in
    let moment = c.args.moment in
    let acts = due_upto tables.quotas (option_copied c.args.before) c.args.used_before c.args.used_after c.args.run_limit moment c.args.folder c.loop-threshold.threshold in
    let own = same_Some c.quota_at-row.result.now (run_quota moment acts row) (sym c.quota_at-row.ensures ∙ row_now c.args.self.now c.loop-threshold.self tables c.loop-threshold.objects moment acts c.loop-threshold.invariant.settled c.unwrap-quota.result row c.quota_at.ensures) in
    omega (arith, c.len-count.ensures, c.loop-threshold-test.true, ap (λ (q : QuotaRow). length q.thresholds) own ∙ length-map row.thresholds (run_threshold moment acts row.folder))

pub run_ready-requires-clause-orderly : goal.run_ready-requires-clause-orderly
run_ready-requires-clause-orderly c =
    let acts = due_upto c.args.objects.now.quotas (option_copied c.args.before) c.args.used_before c.args.used_after c.args.run_limit c.args.moment c.args.folder c.loop-threshold.threshold in
    orderly_now c.args.self.now c.loop-threshold.self c.args.objects.now c.loop-threshold.objects c.args.moment acts c.loop-threshold.invariant.settled c.requires.orderly

pub run_ready-requires-clause-threshold : goal.run_ready-requires-clause-threshold
run_ready-requires-clause-threshold c = record {
  quota = c.quota_at-row.result.now;
  is_there = c.quota_at-row.ensures;
  within = slice_get_within c.quota_at-row.result.now.thresholds c.loop-threshold.threshold c.threshold_at.result.now c.threshold_at.ensures;
}

pub loop-threshold-preserved : goal.loop-threshold-preserved
loop-threshold-preserved c =
    let marks = c.args.self.now in
    let tables = c.args.objects.now in
    let quotas = tables.quotas in
    let moment = c.args.moment in
    let before = option_copied c.args.before in
    let place = c.unwrap-quota.result in
    let k = c.loop-threshold.threshold in
    let row = c.quota_at.result.now in
    let found = found_at quotas c.args.folder place row c.quota_place.result c.quota_place.ensures.place c.unwrap-quota.ensures c.quota_at.ensures in
    let ascending = percents_ascend quotas place row (orderly quotas c.requires.orderly) c.quota_at.ensures in
    let less : k < length row.thresholds = omega (arith, c.len-count.ensures, c.loop-threshold-test.true) in
    let its = there row.thresholds k less in
    let acts = due_upto quotas before c.args.used_before c.args.used_after c.args.run_limit moment c.args.folder k in
    let same : c.loop-threshold.objects.quotas ≡ map (run_quota moment acts) quotas = ap (λ (now : Tables). now.quotas) c.loop-threshold.invariant.settled.tables in
    let own = same_Some c.quota_at-row.result.now (run_quota moment acts row) (sym c.quota_at-row.ensures ∙ row_now marks c.loop-threshold.self tables c.loop-threshold.objects moment acts c.loop-threshold.invariant.settled place row c.quota_at.ensures) in
    let read : c.threshold_at.result.now ≡ its.row = same_Some c.threshold_at.result.now its.row (sym c.threshold_at.ensures ∙ (ap (λ (q : QuotaRow). slice_get q.thresholds k) own ∙ threshold_there quotas before c.args.used_before c.args.used_after c.args.run_limit moment c.args.folder place k row its.row c.quota_at.ensures found ascending its.is)) in
    let passes : crosses before c.args.used_before c.args.used_after row its.row.percent ≡ c.crosses.result =
    sym (crosses_there quotas before c.args.used_before c.args.used_after c.args.run_limit moment c.args.folder place k row its.row c.quota_at.ensures found ascending its.is)
    ∙ (ap (λ (q : QuotaRow). crosses before c.args.used_before c.args.used_after q its.row.percent) (sym own)
    ∙ (ap (λ (t : Threshold). crosses before c.args.used_before c.args.used_after c.quota_at-row.result.now t.percent) (sym read) ∙ sym c.crosses.ensures)) in
    elim c.if-crosses.branch [
      | then-crosses w ↦
          record {
            settled = rw (w.self-is, w.objects-is)
                (subst (Settles marks w.run_ready.new.self tables w.run_ready.new.objects moment)
                (ap (λ (now : List QuotaRow). acts ++ ready_in now place k c.args.run_limit moment) same ∙ crossed_more quotas before c.args.used_before c.args.used_after c.args.run_limit moment c.args.folder place k row its.row c.quota_at.ensures found ascending its.is (passes ∙ w.if-crosses.true))
                (settles_both marks c.loop-threshold.self w.run_ready.new.self tables c.loop-threshold.objects w.run_ready.new.objects moment acts (ready_in c.loop-threshold.objects.quotas place k c.args.run_limit moment) c.loop-threshold.invariant.settled w.run_ready.ensures.settled));
            sorted = rw w.self-is w.run_ready.ensures.sorted;
          }
      | else-crosses w ↦
          record {
            settled = rw (w.self-is, w.objects-is)
                (subst (Settles marks c.loop-threshold.self tables c.loop-threshold.objects moment)
                (uncrossed_more quotas before c.args.used_before c.args.used_after c.args.run_limit moment c.args.folder place k row its.row c.quota_at.ensures found ascending its.is (passes ∙ w.if-crosses.false)) c.loop-threshold.invariant.settled);
            sorted = rw w.self-is c.loop-threshold.invariant.sorted;
          }
    ]

pub returns-clause-settled : goal.returns-clause-settled
returns-clause-settled c =
    let tables = c.args.objects.now in
    let before = option_copied c.args.before in
    let row = c.quota_at.result.now in
    let found = found_at tables.quotas c.args.folder c.unwrap-quota.result row c.quota_place.result c.quota_place.ensures.place c.unwrap-quota.ensures c.quota_at.ensures in
    let all : c.loop-threshold.threshold ≡ length row.thresholds = omega (arith, c.len-count.ensures, c.loop-threshold-test.false) in
    subst (Settles c.args.self.now c.loop-threshold.self tables c.loop-threshold.objects c.args.moment)
    (ap (due_upto tables.quotas before c.args.used_before c.args.used_after c.args.run_limit c.args.moment c.args.folder) all
    ∙ due_all tables before c.args.used_before c.args.used_after c.args.run_limit c.args.moment c.args.folder row found) c.loop-threshold.invariant.settled
