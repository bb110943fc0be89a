use Rattle.std.proofs.Common.{◌≡◌, true}
use Rattle.fsrm_base.specs.Numbers.{is_set}
use Rattle.thresholds.specs.Settled.{Settles}
use Rattle.thresholds.proofs.Steps.{ready_upto}
use Rattle.thresholds.proofs.marks.Marks.run_ready.Given as goal

-- the first of its actions were settled
abbrev pub invariant-loop-action : goal.invariant-loop-action
invariant-loop-action l = record {
  settled : Settles l.fn.self l.self l.fn.objects l.objects l.moment (ready_upto l.fn.objects.quotas l.quota l.threshold l.run_limit l.moment l.action);
  sorted : is_set l.self.numbers ≡ true;
}
