use Rattle.record_fields.proofs.WriterLaws.{writes_then}
use Rattle.record_codec.proofs.filters.put_filter.Goals as goal

pub returns-clause-written : goal.returns-clause-written
returns-clause-written c =
    writes_then c.put_optional-owner_end.ensures (writes_then c.put_some-pattern_end.ensures.written (writes_then c.put_optional-size_end.ensures
    (writes_then c.put_optional-days_end.ensures (writes_then c.put_optional-use_end.ensures c.put_u64.ensures))))
