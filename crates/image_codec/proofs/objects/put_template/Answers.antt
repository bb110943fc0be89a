use Rattle.std.proofs.Common.{refl, arith}
use Rattle.fsrm_base.proofs.TestLaws.{both, both_true}
use Rattle.record_fields.proofs.WriterLaws.{writes_then}
use Rattle.fsrm_model.specs.values.Limits.{most_thresholds}
use Rattle.image_codec.specs.Parts.{is_short, thresholds_meet}
use Rattle.image_codec.proofs.objects.put_template.Goals as goal

pub returns-clause-written : goal.returns-clause-written
returns-clause-written c =
    writes_then c.put-number_end.ensures.written (writes_then c.put-name_end.ensures.written (writes_then c.put-limit_end.ensures.written
    (writes_then c.put-enforce_end.ensures.written c.put_rows.ensures.written)))

pub returns-clause-legal : goal.returns-clause-legal
returns-clause-legal c = λ meets.
    let m = both (is_short c.args.value.now.name) (thresholds_meet c.args.value.now.thresholds) meets in
    both_true _ _ (c.put-number_end.ensures.legal refl) (both_true _ _ (c.put-name_end.ensures.legal m.0) (both_true _ _ (c.put-limit_end.ensures.legal refl)
    (both_true _ _ (c.put-enforce_end.ensures.legal refl) (c.put_rows.ensures.legal most_thresholds (omega arith) m.1))))
