use Rattle.std.proofs.Common.{◌≡◌, ℕ, List, [], ap, sym, ◌∙◌}
use Rattle.fsrm_model.specs.declared.command.NewThresholds.{NewThresholds}
use Rattle.fsrm_model.specs.declared.command.Deed.TheVariants.{Template}
use Rattle.fsrm_model.specs.declared.command.TemplateDeed.TheVariants.{Add as TemplateAdd}
use Rattle.fsrm_model.specs.declared.row.TemplateRow.{TemplateRow}
use Rattle.fsrm_model.specs.objects.Templates.{is_template}
use Rattle.fsrm_model.specs.objects.Thresholds.{changed_thresholds}
use Rattle.templates.specs.Faults.{template_fault}
use Rattle.fsrm_model.specs.declared.row.Threshold.{Threshold}
use Rattle.fsrm_model.proofs.commands.ValueParts.{new_template_parts}
use Rattle.fsrm_engine.proofs.tables.TemplateLaws.{add_due, blank_legal, refused_by, rewritten_ended, rewritten_sound, template_added}
use Rattle.fsrm_engine.proofs.parts.Parts.template_add.Goals as goal

-- thresholds that come where there are none
made_of : (coming : NewThresholds) (removed : List ℕ) (begun made : List Threshold) → removed ≡ [] → begun ≡ [] → made ≡ changed_thresholds removed coming.percents coming.notices begun → made ≡ changed_thresholds [] coming.percents coming.notices []
made_of coming removed begun made none empty is =
    is
    ∙ (ap (λ ns. changed_thresholds ns coming.percents coming.notices begun) none ∙ ap (changed_thresholds [] coming.percents coming.notices) empty)

pub add-requires : goal.add-requires
add-requires c =
    let coming = c.args.template.now.thresholds in
    let ts = c.in_ok-thresholds.thresholds in
    let are : ts ≡ changed_thresholds [] coming.percents coming.notices [] =
    made_of coming c.new-removed.result c.new-begun.result ts c.new-removed.ensures c.new-begun.ensures c.in_ok-thresholds.ensures in
    record {
      valid = ap (λ (r : TemplateRow). is_template (record r { number = 0 })) c.in_ok-row.ensures
          ∙ blank_legal c.args.template.now ts (new_template_parts c.args.template.now c.requires.valid) are (sym c.are_too_many.ensures ∙ c.if-are_too_many.false);
    }

pub done-requires-clause-counted : goal.done-requires-clause-counted
done-requires-clause-counted c = c.requires.ready.whole.sound.counted

pub returns-in-Ok-clause-ok : goal.returns-in-Ok-clause-ok
returns-in-Ok-clause-ok c =
    let p = c.args.self.now in
    let coming = c.args.template.now.thresholds in
    let ts = c.in_ok-thresholds.thresholds in
    let are : ts ≡ changed_thresholds [] coming.percents coming.notices [] =
    made_of coming c.new-removed.result c.new-begun.result ts c.new-removed.ensures c.new-begun.ensures c.in_ok-thresholds.ensures in
    template_added p c.args.moment c.args.template.now c.requires.ready.whole c.done.new.self c.add.new.self c.in_ok-row.row ts c.room-room.result c.done.result
    c.in_ok-row.ensures are c.room-room.ensures (sym c.are_too_many.ensures ∙ c.if-are_too_many.false) c.requires.ready.idle c.requires.ready.after c.in-Ok.ensures.may c.in-Ok.ensures.ok c.done.ensures.ended c.done.ensures.answer

pub returns-in-Ok-clause-sound : goal.returns-in-Ok-clause-sound
returns-in-Ok-clause-sound c =
    let p = c.args.self.now in
    rewritten_ended p c.add.new.self p.objects.quotas c.requires.ready.whole c.requires.ready.whole.sound.counted c.done.new.self c.args.moment c.done.ensures.ended c.done.ensures.counted

pub returns-clause-ok : goal.returns-clause-ok
returns-clause-ok c =
    let p = c.args.self.now in
    let coming = c.args.template.now.thresholds in
    let ts = c.in_ok-thresholds.thresholds in
    let are : ts ≡ changed_thresholds [] coming.percents coming.notices [] =
    made_of coming c.new-removed.result c.new-begun.result ts c.new-removed.ensures c.new-begun.ensures c.in_ok-thresholds.ensures in
    refused_by p c.args.moment (Template (TemplateAdd c.args.template.now)) c.add.new.self c.in-Err.fault (template_fault p.templates c.in_ok-row.row c.room-room.result) c.refused_by_templates.result c.requires.ready.idle c.requires.ready.after
    (add_due p c.args.moment c.args.template.now c.requires.ready.whole c.in_ok-row.row ts c.room-room.result c.in_ok-row.ensures are c.room-room.ensures (sym c.are_too_many.ensures ∙ c.if-are_too_many.false))
    c.in-Err.ensures.refused c.in-Err.ensures.err c.refused_by_templates.ensures.ok

pub returns-clause-sound : goal.returns-clause-sound
returns-clause-sound c =
    let p = c.args.self.now in
    rewritten_sound p c.add.new.self p.objects.quotas c.requires.ready.whole c.requires.ready.whole.sound.counted
