use Rattle.fsrm_objects.proofs.FaultLaws.{short_other}
use Rattle.fsrm_objects.proofs.objects.Objects.swap_quota.Goals as goal

pub put_quota-requires-clause-short : goal.put_quota-requires-clause-short
put_quota-requires-clause-short c = short_other c.args.self.now c.args.row.now c.args.room c.in_ok-may_set.ensures.may
