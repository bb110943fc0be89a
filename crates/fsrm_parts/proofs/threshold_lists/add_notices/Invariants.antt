use Rattle.std.proofs.Common.{◌≡◌, fold, take, true}
use Rattle.fsrm_base.specs.Keyed.{is_ascending}
use Rattle.fsrm_model.specs.objects.Thresholds.{percent_of, with_notice}
use Rattle.fsrm_parts.proofs.threshold_lists.add_notices.Given as goal

-- the first of them were added
abbrev pub invariant-loop-notice : goal.invariant-loop-notice
invariant-loop-notice l = record {
  added : l.thresholds ≡ fold with_notice l.fn.thresholds (take l.notice-index l.notices);
  ascending : is_ascending percent_of l.thresholds ≡ true;
}
