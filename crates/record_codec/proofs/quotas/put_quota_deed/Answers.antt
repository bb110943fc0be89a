use Rattle.record_fields.proofs.WriterLaws.{writes_then}
use Rattle.record_codec.proofs.quotas.put_quota_deed.Goals as goal

pub returns-in-Add-clause-written : goal.returns-in-Add-clause-written
returns-in-Add-clause-written c = rw c.in-Add.is (writes_then c.put_u8-after.ensures c.put_new_quota.ensures.written)

pub returns-in-Modify-clause-written : goal.returns-in-Modify-clause-written
returns-in-Modify-clause-written c = rw c.in-Modify.is (writes_then c.put_u8-after-in-Modify.ensures c.put_change.ensures.written)
