use Rattle.std.proofs.Common.{◌≡◌, true}
use Rattle.fsrm_base.specs.Keyed.{is_ascending}
use Rattle.fsrm_model.specs.store.Lasting.{flagged_quota}
use Rattle.fsrm_model.specs.objects.Quota.{folder_of}
use Rattle.fsrm_parts.proofs.tables.RaiseLaws.{RaisedTo}
use Rattle.fsrm_parts.proofs.flagging.flag_all.Given as goal

-- the quotas before this place were flagged
abbrev pub invariant-loop-place : goal.invariant-loop-place
invariant-loop-place l = record {
  rest : l.objects ≡ record l.fn.objects { quotas = l.objects.quotas };
  flagged_to : RaisedTo flagged_quota l.fn.objects.quotas l.objects.quotas l.place;
  ascending : is_ascending folder_of l.objects.quotas ≡ true;
}
