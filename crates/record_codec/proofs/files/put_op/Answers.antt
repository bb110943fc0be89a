use Rattle.record_fields.proofs.WriterLaws.{writes_then}
use Rattle.record_codec.proofs.KindWriting.{kind_then}
use Rattle.record_codec.proofs.files.put_op.Goals as goal

pub returns-in-Mkdir-clause-written : goal.returns-in-Mkdir-clause-written
returns-in-Mkdir-clause-written c = rw c.in-Mkdir.is (kind_then _ _ c.put_on_path-at.ensures.written c.put_u64.ensures)

pub returns-in-Create-clause-written : goal.returns-in-Create-clause-written
returns-in-Create-clause-written c = rw c.in-Create.is (kind_then _ _ c.put_on_path-at-in-Create.ensures.written (writes_then c.put_u64-at.ensures c.put_u64-in-Create.ensures))

pub returns-in-Resize-clause-written : goal.returns-in-Resize-clause-written
returns-in-Resize-clause-written c = rw c.in-Resize.is (kind_then _ _ c.put_on_path-at-in-Resize.ensures.written c.put_u64-in-Resize.ensures)

pub returns-in-Move-clause-written : goal.returns-in-Move-clause-written
returns-in-Move-clause-written c = rw c.in-Move.is (kind_then _ _ c.put_on_path-at-in-Move.ensures.written c.put_path.ensures.written)
