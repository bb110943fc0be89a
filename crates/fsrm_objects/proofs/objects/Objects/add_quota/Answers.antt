use Rattle.fsrm_objects.proofs.FaultLaws.{admitted}
use Rattle.fsrm_objects.proofs.QuotaRows.{quota_fits}
use Rattle.fsrm_objects.proofs.objects.Objects.add_quota.Goals as goal

pub insert-requires-clause-small : goal.insert-requires-clause-small
insert-requires-clause-small c = quota_fits c.args.row (admitted c.args.self.now c.args.row c.args.room c.in_ok-admit.ensures.may).short c.requires
