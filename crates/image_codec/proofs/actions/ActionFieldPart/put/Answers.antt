use Rattle.std.proofs.Common.{refl}
use Rattle.fsrm_base.proofs.TestLaws.{both_true}
use Rattle.record_fields.proofs.WriterLaws.{writes_then}
use Rattle.image_codec.proofs.PartLaws.{some_any}
use Rattle.image_codec.proofs.actions.ActionFieldPart.put.Goals as goal

pub returns-clause-written : goal.returns-clause-written
returns-clause-written c =
    writes_then c.put-kind_end.ensures.written (writes_then c.put_minutes-minutes_end.ensures.written (writes_then c.put-text_end.ensures.written c.put_maybe.ensures.written))

pub returns-clause-legal : goal.returns-clause-legal
returns-clause-legal c = λ meets.
    both_true _ _ (c.put-kind_end.ensures.legal refl) (both_true _ _ c.put_minutes-minutes_end.ensures.legal
    (both_true _ _ (c.put-text_end.ensures.legal meets) (c.put_maybe.ensures.legal (some_any c.args.value.now.last_run))))
