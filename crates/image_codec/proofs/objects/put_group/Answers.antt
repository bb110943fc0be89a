use Rattle.std.proofs.Common.{refl, arith}
use Rattle.std.specs.Prelude.{◌&&◌}
use Rattle.fsrm_base.proofs.TestLaws.{both, both_true}
use Rattle.record_fields.proofs.WriterLaws.{writes_then}
use Rattle.fsrm_model.specs.values.Limits.{most_patterns}
use Rattle.image_codec.specs.Parts.{is_short, few_meet}
use Rattle.image_codec.proofs.objects.put_group.Goals as goal

pub returns-clause-written : goal.returns-clause-written
returns-clause-written c =
    writes_then c.put-number_end.ensures.written (writes_then c.put-name_end.ensures.written (writes_then c.put_rows-members_end.ensures.written c.put_rows.ensures.written))

pub returns-clause-legal : goal.returns-clause-legal
returns-clause-legal c = λ meets.
    let g = c.args.value.now in
    let m = both (is_short g.name) (few_meet most_patterns is_short g.members && few_meet most_patterns is_short g.non_members) meets in
    let n = both (few_meet most_patterns is_short g.members) (few_meet most_patterns is_short g.non_members) m.1 in
    both_true _ _ (c.put-number_end.ensures.legal refl) (both_true _ _ (c.put-name_end.ensures.legal m.0)
    (both_true _ _ (c.put_rows-members_end.ensures.legal most_patterns (omega arith) n.0) (c.put_rows.ensures.legal most_patterns (omega arith) n.1)))
