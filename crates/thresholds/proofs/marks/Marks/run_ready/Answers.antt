use Rattle.std.proofs.Common.{◌≡◌, ◌+◌, ◌*◌, ◌<◌, List, [], ◌∷◌, ◌++◌, length, is_some, sym, ◌∙◌, ap, subst, arith}
use Rattle.std.proofs.lemmas.Option.{same_Some, slice_get_within}
use Rattle.std.specs.Prelude.{map}
use Rattle.fsrm_base.proofs.SortedRows.{there}
use Rattle.fsrm_model.specs.declared.row.QuotaRow.{QuotaRow}
use Rattle.fsrm_model.specs.objects.DueActions.{ready}
use Rattle.fsrm_model.specs.objects.Runs.{run_quota}
use Rattle.fsrm_objects.specs.Tables.{Tables}
use Rattle.thresholds.specs.Marked.{act_at, action_at, waiting}
use Rattle.thresholds.specs.Settled.{Settles}
use Rattle.thresholds.proofs.RunSteps.{orderly_now}
use Rattle.thresholds.proofs.SettleLaws.{settles_both, settles_none}
use Rattle.thresholds.proofs.Steps.{ready_upto, ready_none, ready_more, unready_more, act_there, action_there, stands, stands_there}
use Rattle.thresholds.proofs.WaitingLaws.{act_run}
use Rattle.thresholds.proofs.marks.Marks.run_ready.Goals.{then-ready, else-ready}
use Rattle.thresholds.proofs.marks.Marks.run_ready.Goals as goal

pub quota_at-requires : goal.quota_at-requires
quota_at-requires c = slice_get_within c.args.objects.now.quotas c.args.quota c.requires.threshold.quota c.requires.threshold.is_there

pub overflow_cast-count : goal.overflow_cast-count
overflow_cast-count c =
    let s = stands c.args.objects.now.quotas c.args.quota c.args.threshold c.quota_at.result.now c.threshold_at.result.now c.requires.orderly c.quota_at.ensures c.threshold_at.ensures in
    omega (arith, s.short, c.len-count.ensures)

pub loop-action-init : goal.loop-action-init
loop-action-init c =
    let marks = c.args.self.now in
    let tables = c.args.objects.now in
    let s = stands tables.quotas c.args.quota c.args.threshold c.quota_at.result.now c.threshold_at.result.now c.requires.orderly c.quota_at.ensures c.threshold_at.ensures in
    record {
      settled = subst (Settles marks marks tables tables c.args.moment) (sym (ready_none tables.quotas c.args.quota c.args.threshold c.args.run_limit c.args.moment c.quota_at.result.now c.threshold_at.result.now s))
          (settles_none marks tables c.args.moment c.kept.ensures.few c.requires.marked);
      sorted = c.kept.ensures.sorted;
    }

pub number-number-requires-clause-quota : goal.number-number-requires-clause-quota
number-number-requires-clause-quota c = (stands_there c.args.objects.now.quotas c.args.quota c.args.threshold c.requires.orderly c.requires.threshold).low

pub number-number-requires-clause-threshold : goal.number-number-requires-clause-threshold
number-number-requires-clause-threshold c = (stands_there c.args.objects.now.quotas c.args.quota c.args.threshold c.requires.orderly c.requires.threshold).few

pub number-number-requires-clause-action : goal.number-number-requires-clause-action
number-number-requires-clause-action c =
    let s = stands c.args.objects.now.quotas c.args.quota c.args.threshold c.quota_at.result.now c.threshold_at.result.now c.requires.orderly c.quota_at.ensures c.threshold_at.ensures in
    omega (arith, s.short, c.len-count.ensures, c.loop-action-test.true)

pub action_at-requires : goal.action_at-requires
action_at-requires c =
    let quotas = c.args.objects.now.quotas in
    let k = c.loop-action.action in
    let row = c.quota_at.result.now in
    let t = c.threshold_at.result.now in
    let s = stands quotas c.args.quota c.args.threshold row t c.requires.orderly c.quota_at.ensures c.threshold_at.ensures in
    let less : k < length t.actions = omega (arith, c.len-count.ensures, c.loop-action-test.true) in
    let found = there t.actions k less in
    let acts = ready_upto quotas c.args.quota c.args.threshold c.args.run_limit c.args.moment k in
    let number = c.args.quota * 128 + c.args.threshold * 8 + k in
    ap (λ n. is_some (act_at c.loop-action.objects.quotas n)) c.number-number.ensures
    ∙ (ap (λ (tables : Tables). is_some (act_at tables.quotas number)) c.loop-action.invariant.settled.tables
    ∙ ap is_some (act_run c.args.moment acts number quotas
    ∙ act_there quotas c.args.quota c.args.threshold c.args.run_limit c.args.moment k row t found.row s.at s.in_quota found.is s.few (omega (arith, less, s.short))))

pub run-requires-clause-orderly : goal.run-requires-clause-orderly
run-requires-clause-orderly c =
    let acts = ready_upto c.args.objects.now.quotas c.args.quota c.args.threshold c.args.run_limit c.args.moment c.loop-action.action in
    orderly_now c.args.self.now c.loop-action.self c.args.objects.now c.loop-action.objects c.args.moment acts c.loop-action.invariant.settled c.requires.orderly

pub loop-action-preserved : goal.loop-action-preserved
loop-action-preserved c =
    let marks = c.args.self.now in
    let tables = c.args.objects.now in
    let quotas = tables.quotas in
    let moment = c.args.moment in
    let k = c.loop-action.action in
    let row = c.quota_at.result.now in
    let t = c.threshold_at.result.now in
    let s = stands quotas c.args.quota c.args.threshold row t c.requires.orderly c.quota_at.ensures c.threshold_at.ensures in
    let less : k < length t.actions = omega (arith, c.len-count.ensures, c.loop-action-test.true) in
    let found = there t.actions k less in
    let small : k < 8 = omega (arith, less, s.short) in
    let acts = ready_upto quotas c.args.quota c.args.threshold c.args.run_limit moment k in
    let number = c.args.quota * 128 + c.args.threshold * 8 + k in
    let same : c.loop-action.objects.quotas ≡ map (run_quota moment acts) quotas = ap (λ (now : Tables). now.quotas) c.loop-action.invariant.settled.tables in
    let own : c.action_at.result.now ≡ found.row = same_Some c.action_at.result.now found.row (sym c.action_at.ensures ∙ (ap (action_at c.loop-action.objects.quotas) c.number-number.ensures ∙ (ap (λ (now : List QuotaRow). action_at now number) same ∙ action_there quotas c.args.quota c.args.threshold c.args.run_limit moment k row t found.row s.at s.in_quota found.is s.few small))) in
    let may : ready c.args.run_limit moment found.row ≡ c.ready.result = ap (ready c.args.run_limit moment) (sym own) ∙ sym c.ready.ensures in
    elim c.if-ready.branch [
      | then-ready w ↦
          record {
            settled = rw (w.self-is, w.objects-is)
                (subst (Settles marks w.run.new.self tables w.run.new.objects moment)
                (ap (λ n. acts ++ waiting c.loop-action.objects.quotas (n ∷ [])) c.number-number.ensures
                ∙ (ap (λ (now : List QuotaRow). acts ++ waiting now (number ∷ [])) same ∙ ready_more quotas c.args.quota c.args.threshold c.args.run_limit moment k row t found.row s.at s.in_quota found.is s.few small (may ∙ w.if-ready.true)))
                (settles_both marks c.loop-action.self w.run.new.self tables c.loop-action.objects w.run.new.objects moment acts (waiting c.loop-action.objects.quotas (c.number-number.result ∷ [])) c.loop-action.invariant.settled w.run.ensures.settled));
            sorted = rw w.self-is w.run.ensures.sorted;
          }
      | else-ready w ↦
          record {
            settled = rw (w.self-is, w.objects-is)
                (subst (Settles marks c.loop-action.self tables c.loop-action.objects moment)
                (unready_more quotas c.args.quota c.args.threshold c.args.run_limit moment k row t found.row s.at s.in_quota found.is s.few small (may ∙ w.if-ready.false)) c.loop-action.invariant.settled);
            sorted = rw w.self-is c.loop-action.invariant.sorted;
          }
    ]
