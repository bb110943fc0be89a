use Rattle.record_fields.proofs.WriterLaws.{writes_then}
use Rattle.record_codec.proofs.templates.put_template_deed.Goals as goal

pub returns-in-Add-clause-written : goal.returns-in-Add-clause-written
returns-in-Add-clause-written c = rw c.in-Add.is (writes_then c.put_u8-after.ensures c.put_new_template.ensures.written)

pub returns-in-Modify-clause-written : goal.returns-in-Modify-clause-written
returns-in-Modify-clause-written c = rw c.in-Modify.is (writes_then c.put_u8-after-in-Modify.ensures c.put_template_change.ensures.written)

pub returns-in-Delete-clause-written : goal.returns-in-Delete-clause-written
returns-in-Delete-clause-written c = rw c.in-Delete.is (writes_then c.put_u8-after-in-Delete.ensures c.put.ensures.written)
