use Rattle.std.proofs.Common.{refl, arith}
use Rattle.fsrm_base.proofs.TestLaws.{both, both_true}
use Rattle.record_fields.proofs.WriterLaws.{writes_then}
use Rattle.fsrm_model.specs.values.Limits.{most_screen_groups, most_actions}
use Rattle.image_codec.specs.Parts.{any, few_meet, action_meets}
use Rattle.image_codec.proofs.objects.put_screen.Goals as goal

pub returns-clause-written : goal.returns-clause-written
returns-clause-written c =
    writes_then c.put-folder_end.ensures.written (writes_then c.put-active_end.ensures.written (writes_then c.put_rows-groups_end.ensures.written c.put_rows.ensures.written))

pub returns-clause-legal : goal.returns-clause-legal
returns-clause-legal c = λ meets.
    let s = c.args.value.now in
    let m = both (few_meet most_screen_groups any s.groups) (few_meet most_actions action_meets s.actions) meets in
    both_true _ _ (c.put-folder_end.ensures.legal refl) (both_true _ _ (c.put-active_end.ensures.legal refl)
    (both_true _ _ (c.put_rows-groups_end.ensures.legal most_screen_groups (omega arith) m.0) (c.put_rows.ensures.legal most_actions (omega arith) m.1)))
