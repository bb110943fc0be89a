use Rattle.std.proofs.Common.{refl}
use Rattle.fsrm_base.proofs.TestLaws.{both_true}
use Rattle.record_fields.proofs.WriterLaws.{writes_then}
use Rattle.image_codec.proofs.PartLaws.{some_any}
use Rattle.image_codec.proofs.jobs.put_filter.Goals as goal

pub returns-clause-written : goal.returns-clause-written
returns-clause-written c =
    writes_then c.put_maybe-owner_end.ensures.written (writes_then c.put_maybe-pattern_end.ensures.written (writes_then c.put_maybe-size_end.ensures.written
    (writes_then c.put_maybe-days_end.ensures.written (writes_then c.put_maybe-use_end.ensures.written c.put.ensures.written))))

pub returns-clause-legal : goal.returns-clause-legal
returns-clause-legal c = λ meets.
    let f = c.args.filter.now in
    both_true _ _ (c.put_maybe-owner_end.ensures.legal (some_any f.owner)) (both_true _ _ (c.put_maybe-pattern_end.ensures.legal meets)
    (both_true _ _ (c.put_maybe-size_end.ensures.legal (some_any f.min_size)) (both_true _ _ (c.put_maybe-days_end.ensures.legal (some_any f.days))
    (both_true _ _ (c.put_maybe-use_end.ensures.legal (some_any f.min_use)) (c.put.ensures.legal refl)))))
