use Rattle.std.proofs.Common.{◌≡◌, fold, take, true}
use Rattle.fsrm_base.specs.Keyed.{is_ascending}
use Rattle.fsrm_model.specs.objects.Thresholds.{percent_of, with_threshold}
use Rattle.fsrm_parts.proofs.threshold_lists.add_percents.Given as goal

-- the first of them were added
abbrev pub invariant-loop-percent : goal.invariant-loop-percent
invariant-loop-percent l = record {
  added : l.thresholds ≡ fold with_threshold l.fn.thresholds (take l.percent-index l.percents);
  ascending : is_ascending percent_of l.thresholds ≡ true;
}
