use Rattle.std.proofs.Common.{refl, arith}
use Rattle.fsrm_base.proofs.TestLaws.{both_true}
use Rattle.record_fields.proofs.WriterLaws.{writes_then}
use Rattle.fsrm_model.specs.values.Limits.{most_excluded}
use Rattle.image_codec.proofs.objects.put_auto.Goals as goal

pub returns-clause-written : goal.returns-clause-written
returns-clause-written c =
    writes_then c.put-folder_end.ensures.written (writes_then c.put-template_end.ensures.written c.put_rows.ensures.written)

pub returns-clause-legal : goal.returns-clause-legal
returns-clause-legal c = λ meets.
    both_true _ _ (c.put-folder_end.ensures.legal refl) (both_true _ _ (c.put-template_end.ensures.legal refl) (c.put_rows.ensures.legal most_excluded (omega arith) meets))
