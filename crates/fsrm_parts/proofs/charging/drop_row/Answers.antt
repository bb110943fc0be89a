use Rattle.std.proofs.Common.{sym}
use Rattle.fsrm_parts.proofs.tables.AbsentLaws.{quota_there, quota_absent}
use Rattle.fsrm_parts.proofs.charging.drop_row.Goals as goal

pub drop_quota-requires : goal.drop_quota-requires
drop_quota-requires c = quota_there c.args.objects.now.quotas c.args.folder c.quota.result c.quota.ensures (sym c.if-is_some.ensures)

pub returns-else-is_some : goal.returns-else-is_some
returns-else-is_some c = quota_absent c.args.objects.now c.args.folder c.quota.result c.quota.ensures (sym c.if-is_some.ensures)
