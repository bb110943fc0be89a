use Rattle.std.proofs.Common.{◌≡◌, ◌+◌, ◌&&◌, true, length}
use Rattle.fsrm_base.specs.Keyed.{is_ascending}
use Rattle.fsrm_base.specs.Numbers.{is_in}
use Rattle.fsrm_base.proofs.ChangedRows.{changed_rows}
use Rattle.fsrm_model.specs.values.Limits.{most_quotas}
use Rattle.fsrm_model.specs.objects.Quota.{folder_of}
use Rattle.fsrm_model.specs.nodes.Tree.{chain, is_under}
use Rattle.number_set.specs.Numbers.{Numbers}
use Rattle.quota_usage.specs.Climb.{amended_counter, climbed}
use Rattle.quota_usage.specs.Counters.{counted}
use Rattle.quota_usage.proofs.ClimbLaws.{FitAll}
use Rattle.fsrm_parts.specs.Crossing.{is_crossing, Notes}
use Rattle.fsrm_parts.specs.Peaks.{raised}
use Rattle.fsrm_parts.proofs.charging.gain_above.Given as goal

-- to change the counters on what is left of the way is to change those on all of it. So it is with the peaks that are
-- raised, and with what is noted: both go by what the counters come to in the end
abbrev pub invariant-loop-at : goal.invariant-loop-at
invariant-loop-at g l = record {
  fits : FitAll l.usage l.way l.gain.minus l.gain.plus;
  counted : changed_rows counted (amended_counter l.gain.minus l.gain.plus) l.way l.usage ≡ climbed l.tree.nodes l.folder l.gain.minus l.gain.plus l.fn.usage;
  rest : l.objects ≡ record l.fn.objects { quotas = l.objects.quotas };
  raised : changed_rows folder_of (raised (climbed l.tree.nodes l.folder l.gain.minus l.gain.plus l.fn.usage) l.gain.moment) l.way l.objects.quotas ≡ changed_rows folder_of (raised (climbed l.tree.nodes l.folder l.gain.minus l.gain.plus l.fn.usage) l.gain.moment) (chain l.tree.nodes l.folder) l.fn.objects.quotas;
  ascending : is_ascending folder_of l.objects.quotas ≡ true;
  bound : l.crossing.bound ≡ most_quotas;
  noted : (end : Numbers) → Notes l.crossing end l.objects.quotas (λ q. is_in l.way q.folder && is_crossing (climbed l.tree.nodes l.folder l.gain.minus l.gain.plus l.fn.usage) l.gain.minus l.gain.plus q) → Notes l.fn.crossing end l.fn.objects.quotas (λ q. is_under l.tree.nodes q.folder l.folder && is_crossing (climbed l.tree.nodes l.folder l.gain.minus l.gain.plus l.fn.usage) l.gain.minus l.gain.plus q);
  looks : l.steps + length l.way ≡ l.fn.steps + length (chain l.tree.nodes l.folder);
}

abbrev pub decreases-loop-at : goal.decreases-loop-at
decreases-loop-at g l = length l.way
