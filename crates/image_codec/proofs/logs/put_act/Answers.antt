use Rattle.std.proofs.Common.{refl}
use Rattle.fsrm_base.proofs.TestLaws.{both_true}
use Rattle.record_fields.proofs.WriterLaws.{writes_then}
use Rattle.image_codec.proofs.logs.put_act.Goals as goal

pub returns-clause-written : goal.returns-clause-written
returns-clause-written c =
    writes_then c.put-moment_end.ensures.written (writes_then c.put-folder_end.ensures.written (writes_then c.put-percent_end.ensures.written c.put.ensures.written))

pub returns-clause-legal : goal.returns-clause-legal
returns-clause-legal c = both_true _ _ (c.put-moment_end.ensures.legal refl) (both_true _ _ (c.put-folder_end.ensures.legal refl) (both_true _ _ (c.put-percent_end.ensures.legal refl) (c.put.ensures.legal refl)))
