use Rattle.std.proofs.Common.{refl}
use Rattle.fsrm_base.proofs.TestLaws.{both_true}
use Rattle.record_fields.proofs.WriterLaws.{writes_then}
use Rattle.image_codec.proofs.logs.put_audit.Goals as goal

pub returns-clause-written : goal.returns-clause-written
returns-clause-written c =
    writes_then c.put-moment_end.ensures.written (writes_then c.put-active_end.ensures.written (writes_then c.put-owner_end.ensures.written
    (writes_then c.put-folder_end.ensures.written (writes_then c.put-screen_end.ensures.written c.put_name.ensures.written))))

pub returns-clause-legal : goal.returns-clause-legal
returns-clause-legal c = λ short.
    both_true _ _ (c.put-moment_end.ensures.legal refl) (both_true _ _ (c.put-active_end.ensures.legal refl) (both_true _ _ (c.put-owner_end.ensures.legal refl)
    (both_true _ _ (c.put-folder_end.ensures.legal refl) (both_true _ _ (c.put-screen_end.ensures.legal refl) (c.put_name.ensures.legal short)))))
