use Rattle.std.proofs.Common.{◌≡◌, true}
use Rattle.fsrm_base.specs.Keyed.{is_ascending}
use Rattle.fsrm_model.specs.objects.Quota.{folder_of}
use Rattle.fsrm_parts.specs.Peaks.{raised}
use Rattle.fsrm_parts.proofs.tables.RaiseLaws.{RaisedTo}
use Rattle.fsrm_parts.proofs.charging.raise_all.Given as goal

-- the peaks before this place were raised
abbrev pub invariant-loop-place : goal.invariant-loop-place
invariant-loop-place l = record {
  rest : l.objects ≡ record l.fn.objects { quotas = l.objects.quotas };
  raised_to : RaisedTo (raised l.usage l.moment) l.fn.objects.quotas l.objects.quotas l.place;
  ascending : is_ascending folder_of l.objects.quotas ≡ true;
}
