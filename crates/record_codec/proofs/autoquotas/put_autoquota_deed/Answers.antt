use Rattle.record_fields.proofs.WriterLaws.{writes_then}
use Rattle.record_codec.proofs.autoquotas.put_autoquota_deed.Goals as goal

pub returns-in-Add-clause-written : goal.returns-in-Add-clause-written
returns-in-Add-clause-written c = rw c.in-Add.is (writes_then c.put_u8-after.ensures c.put_new_autoquota.ensures.written)
