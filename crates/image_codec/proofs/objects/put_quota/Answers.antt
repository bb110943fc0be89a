use Rattle.std.proofs.Common.{refl, arith}
use Rattle.fsrm_base.proofs.TestLaws.{both_true}
use Rattle.fsrm_model.specs.values.Limits.{most_thresholds}
use Rattle.record_fields.proofs.WriterLaws.{writes_then}
use Rattle.image_codec.proofs.PartLaws.{some_any}
use Rattle.image_codec.proofs.objects.put_quota.Goals as goal

pub returns-clause-written : goal.returns-clause-written
returns-clause-written c =
    writes_then c.put-folder_end.ensures.written (writes_then c.put-limit_end.ensures.written (writes_then c.put-enforce_end.ensures.written
    (writes_then c.put_state-state_end.ensures.written (writes_then c.put_rows-thresholds_end.ensures.written (writes_then c.put_maybe-template_end.ensures.written
    (writes_then c.put-peak_end.ensures.written c.put.ensures.written))))))

pub returns-clause-legal : goal.returns-clause-legal
returns-clause-legal c = λ meets.
    both_true _ _ (c.put-folder_end.ensures.legal refl) (both_true _ _ (c.put-limit_end.ensures.legal refl) (both_true _ _ (c.put-enforce_end.ensures.legal refl)
    (both_true _ _ c.put_state-state_end.ensures.legal (both_true _ _ (c.put_rows-thresholds_end.ensures.legal most_thresholds (omega arith) meets)
    (both_true _ _ (c.put_maybe-template_end.ensures.legal (some_any c.args.value.now.template)) (both_true _ _ (c.put-peak_end.ensures.legal refl) (c.put.ensures.legal refl)))))))
