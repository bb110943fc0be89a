use Rattle.fsrm_objects.proofs.QuotaRows.{quota_fits}
use Rattle.fsrm_objects.proofs.objects.Objects.put_quota.Goals as goal

pub swap-requires-clause-small : goal.swap-requires-clause-small
swap-requires-clause-small c = quota_fits c.args.row.now c.requires.short c.requires.texts
