use Rattle.std.proofs.Common.{refl}
use Rattle.std.specs.Prelude.{◌&&◌}
use Rattle.fsrm_base.proofs.TestLaws.{both, both_true}
use Rattle.record_fields.proofs.WriterLaws.{writes_then}
use Rattle.image_codec.proofs.PartLaws.{some_any}
use Rattle.image_codec.specs.Parts.{is_short, filter_meets}
use Rattle.image_codec.proofs.jobs.put_job.Goals as goal

pub returns-clause-written : goal.returns-clause-written
returns-clause-written c =
    writes_then c.put-number_end.ensures.written (writes_then c.put-name_end.ensures.written (writes_then c.put-kind_end.ensures.written
    (writes_then c.put-scope_end.ensures.written (writes_then c.put_filter-filter_end.ensures.written (writes_then c.put-schedule_end.ensures.written
    (writes_then c.put-made_end.ensures.written c.put_maybe.ensures.written))))))

pub returns-clause-legal : goal.returns-clause-legal
returns-clause-legal c = λ meets.
    let j = c.args.job.now in
    let m = both (is_short j.name) (filter_meets j.filter && is_short j.schedule) meets in
    let n = both (filter_meets j.filter) (is_short j.schedule) m.1 in
    both_true _ _ (c.put-number_end.ensures.legal refl) (both_true _ _ (c.put-name_end.ensures.legal m.0) (both_true _ _ (c.put-kind_end.ensures.legal refl)
    (both_true _ _ (c.put-scope_end.ensures.legal refl) (both_true _ _ (c.put_filter-filter_end.ensures.legal n.0) (both_true _ _ (c.put-schedule_end.ensures.legal n.1)
    (both_true _ _ (c.put-made_end.ensures.legal refl) (c.put_maybe.ensures.legal (some_any j.last_run))))))))
