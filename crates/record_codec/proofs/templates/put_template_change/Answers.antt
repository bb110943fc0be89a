use Rattle.fsrm_base.proofs.TestLaws.{both_true}
use Rattle.record_fields.proofs.WriterLaws.{writes_then}
use Rattle.record_codec.proofs.templates.put_template_change.Goals as goal

pub returns-clause-written : goal.returns-clause-written
returns-clause-written c =
    writes_then c.put-name_end.ensures.written (writes_then c.put_optional-limit_end.ensures (writes_then c.put_optional-enforce_end.ensures
    (writes_then c.put_short_list-removed_end.ensures (writes_then c.put_new_thresholds-thresholds_end.ensures.written c.put_update.ensures))))

pub returns-clause-typed : goal.returns-clause-typed
returns-clause-typed c = both_true _ _ c.put-name_end.ensures.typed c.put_new_thresholds-thresholds_end.ensures.typed
