use Rattle.fsrm_base.proofs.TestLaws.{both_true}
use Rattle.record_fields.proofs.WriterLaws.{writes_then}
use Rattle.record_codec.proofs.quotas.put_change.Goals as goal

pub returns-clause-written : goal.returns-clause-written
returns-clause-written c =
    writes_then c.put_path-path_end.ensures.written (writes_then c.put_optional-limit_end.ensures (writes_then c.put_optional-enforce_end.ensures
    (writes_then c.put_optional-enabled_end.ensures (writes_then c.put_short_list-removed_end.ensures c.put_new_thresholds.ensures.written))))

pub returns-clause-typed : goal.returns-clause-typed
returns-clause-typed c = both_true _ _ c.put_path-path_end.ensures.text c.put_new_thresholds.ensures.typed
