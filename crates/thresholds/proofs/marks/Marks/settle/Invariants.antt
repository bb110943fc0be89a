use Rattle.std.proofs.Common.{◌≡◌, true}
use Rattle.std.specs.Option.{option_copied}
use Rattle.fsrm_base.specs.Numbers.{is_set}
use Rattle.thresholds.specs.Settled.{Settles}
use Rattle.thresholds.proofs.Steps.{due_upto}
use Rattle.thresholds.proofs.marks.Marks.settle.Given as goal

-- the first of its thresholds were settled
abbrev pub invariant-loop-threshold : goal.invariant-loop-threshold
invariant-loop-threshold l = record {
  settled : Settles l.fn.self l.self l.fn.objects l.objects l.moment (due_upto l.fn.objects.quotas (option_copied l.before) l.used_before l.used_after l.run_limit l.moment l.folder l.threshold);
  sorted : is_set l.self.numbers ≡ true;
}
