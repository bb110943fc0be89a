use Rattle.std.proofs.Common.{◌≡◌, ℕ, List, Some, true, false, refl, ap, sym, ◌∙◌, subst}
use Rattle.std.specs.Prelude.{IfOk, flat_map}
use Rattle.std.specs.List.{AllByRecursion}
use Rattle.std.specs.Option.{option_and_then, option_copied}
use Rattle.fsrm_model.specs.declared.command.Answer.{Answer}
use Rattle.fsrm_model.specs.declared.command.Deed.TheVariants.{Template}
use Rattle.fsrm_model.specs.declared.command.TemplateDeed.TheVariants.{Modify as TemplateModify}
use Rattle.fsrm_model.specs.declared.row.Threshold.{Threshold}
use Rattle.fsrm_model.specs.objects.Templates.{template_named}
use Rattle.fsrm_model.specs.objects.Thresholds.{are_too_many, may_be_removed}
use Rattle.fsrm_model.proofs.valid.TemplatesKept.{template_parts}
use Rattle.fsrm_objects.specs.Tables.{Tables}
use Rattle.templates.specs.Faults.{modify_fault}
use Rattle.templates.specs.Reached.{were}
use Rattle.fsrm_model.proofs.commands.ValueParts.{template_change_parts}
use Rattle.fsrm_engine.specs.declared.parts.Parts.{Parts}
use Rattle.fsrm_parts.specs.Updated.{updated_acts, HasNow}
use Rattle.fsrm_parts.specs.Faults.{template_refusal}
use Rattle.fsrm_engine.specs.Machine.{AreCounted, Does, IsIdle, IsSound, Ran}
use Rattle.fsrm_engine.proofs.settling.EndLaws.{few_log}
use Rattle.fsrm_engine.proofs.steps.StepLaws.{refused_as}
use Rattle.fsrm_engine.proofs.tables.RanLaws.{sound_run}
use Rattle.fsrm_engine.proofs.tables.RoomLaws.{percents_ascend}
use Rattle.fsrm_engine.proofs.tables.SourceLaws.{named_legal}
use Rattle.fsrm_engine.proofs.tables.TemplateLaws.{refused_by, rewritten_sound}
use Rattle.fsrm_engine.proofs.tables.UpdateLaws.{ReachedRows, mid_is, modified_counted, modify_due, modify_missing, reached_have, reached_rows, retemplated_legal, row_named, template_modified}
use Rattle.fsrm_engine.proofs.parts.Parts.template_modify.Goals as goal

-- what was lent is the lists
may_is : (lent removed : List ℕ) (held thresholds : List Threshold) → lent ≡ removed → held ≡ thresholds → may_be_removed removed thresholds ≡ may_be_removed lent held
may_is lent removed held thresholds e f = sym (ap (λ ns. may_be_removed ns held) e ∙ ap (may_be_removed removed) f)

pub returns-in_default-clause-ok : goal.returns-in_default-clause-ok
returns-in_default-clause-ok c =
    let p = c.args.self.now in
    let change = c.args.change.now in
    refused_as p c.args.moment (Template (TemplateModify change)) c.refused.result _ c.requires.ready.idle c.requires.ready.after
    (modify_missing p c.args.moment change (sym c.template_named.ensures ∙ ap option_copied c.in_default.is)) refl c.refused.ensures

pub retemplated-requires : goal.retemplated-requires
retemplated-requires c =
    let p = c.args.self.now in
    let t = c.in-Some.template.now in
    let is : template_named p.templates.templates c.args.change.now.name ≡ Some t = sym c.template_named.ensures ∙ ap option_copied c.in-Some.is in
    percents_ascend t.thresholds (template_parts t (named_legal p c.args.change.now.name t c.requires.ready.whole.valid is)).thresholds

pub modify-requires-clause-named : goal.modify-requires-clause-named
modify-requires-clause-named c =
    let p = c.args.self.now in
    let t = c.in-Some.template.now in
    let change = c.args.change.now in
    let is : template_named p.templates.templates c.args.change.now.name ≡ Some t = sym c.template_named.ensures ∙ ap option_copied c.in-Some.is in
    row_named p c.args.moment change t is c.requires.ready.whole c.in_ok-row.row c.in_ok-row.ensures

pub modify-requires-clause-valid : goal.modify-requires-clause-valid
modify-requires-clause-valid c =
    let p = c.args.self.now in
    let t = c.in-Some.template.now in
    let change = c.args.change.now in
    let is : template_named p.templates.templates c.args.change.now.name ≡ Some t = sym c.template_named.ensures ∙ ap option_copied c.in-Some.is in
    let few : are_too_many c.in_ok-row.row.thresholds ≡ false = sym c.are_too_many.ensures ∙ c.if-are_too_many.false in
    retemplated_legal change t c.in_ok-row.row (template_change_parts change c.requires.valid) c.in_ok-row.ensures few (named_legal p c.args.change.now.name t c.requires.ready.whole.valid is)

pub settle_reached-requires : goal.settle_reached-requires
settle_reached-requires c =
    let p = c.args.self.now in
    let t = c.in-Some.template.now in
    let w = c.requires.ready.whole in
    let change = c.args.change.now in
    let row = c.in_ok-row.row in
    let is : template_named p.templates.templates c.args.change.now.name ≡ Some t = sym c.template_named.ensures ∙ ap option_copied c.in-Some.is in
    let few : are_too_many row.thresholds ≡ false = sym c.are_too_many.ensures ∙ c.if-are_too_many.false in
    let legal = retemplated_legal change t row (template_change_parts change c.requires.valid) c.in_ok-row.ensures few (named_legal p c.args.change.now.name t w.valid is) in
    let mid = mid_is p c.args.moment change t is w row c.in_ok-row.ensures c.modify.new.self c.modify.new.objects c.in-Ok.ensures.ok c.in-Ok.ensures.quotas in
    let before = were c.in-Ok.reached in
    let are = reached_rows p c.args.moment change t is w row c.in_ok-row.ensures before c.in-Ok.ensures.reached in
    let have = reached_have p c.args.moment change t is w row c.in_ok-row.ensures before c.in-Ok.reached.thresholds c.in-Ok.ensures.reached c.in-Ok.ensures.apart in
    record {
      may = record {
        counted = subst AreCounted (sym mid) (modified_counted p c.args.moment change t is w row c.in_ok-row.ensures legal);
        idle = subst IsIdle (sym mid) (record { numbers = c.requires.ready.idle.numbers; places = c.requires.ready.idle.places; crossing = c.requires.ready.idle.crossing });
        in_range = c.requires.ready.in_range;
      };
      log = few_log p w;
      there = (subst (λ (q : Parts). ReachedRows before q.objects.quotas) (sym mid) are).there;
      ascending = are.ascending;
      now = subst (λ (q : Parts). AllByRecursion (HasNow c.in-Ok.reached.thresholds q.objects.quotas) before) (sym mid) have;
    }

pub returns-in-Ok-clause-ok : goal.returns-in-Ok-clause-ok
returns-in-Ok-clause-ok c =
    let p = c.args.self.now in
    let t = c.in-Some.template.now in
    let w = c.requires.ready.whole in
    let change = c.args.change.now in
    let row = c.in_ok-row.row in
    let is : template_named p.templates.templates c.args.change.now.name ≡ Some t = sym c.template_named.ensures ∙ ap option_copied c.in-Some.is in
    let few : are_too_many row.thresholds ≡ false = sym c.are_too_many.ensures ∙ c.if-are_too_many.false in
    let legal = retemplated_legal change t row (template_change_parts change c.requires.valid) c.in_ok-row.ensures few (named_legal p c.args.change.now.name t w.valid is) in
    let may : may_be_removed change.removed t.thresholds ≡ true = may_is c.as_slice.result.now change.removed c.as_slice-2.result.now t.thresholds c.as_slice.ensures c.as_slice-2.ensures ∙ (sym c.may_be_removed.ensures ∙ c.if-not-may_be_removed.false) in
    let due_is = modify_due p c.args.moment change t is w row c.in_ok-row.ensures c.room-room.result c.room-room.ensures may few in
    let mid = mid_is p c.args.moment change t is w row c.in_ok-row.ensures c.modify.new.self c.modify.new.objects c.in-Ok.ensures.ok c.in-Ok.ensures.quotas in
    template_modified p c.args.moment change t is w row c.in_ok-row.ensures
    c.settle_reached.new.self c.done.new.self (were c.in-Ok.reached) c.done.result c.requires.ready.idle c.requires.ready.after legal (due_is ∙ ap (option_and_then template_refusal) c.in-Ok.ensures.may) c.in-Ok.ensures.reached
    (subst (λ (q : Parts). Ran q c.settle_reached.new.self c.args.moment (flat_map (updated_acts q.objects q.usage q.run_limit c.args.moment) (were c.in-Ok.reached))) mid c.settle_reached.ensures.settled)
    c.done.ensures.ended c.done.ensures.answer

pub returns-in-Ok-clause-sound : goal.returns-in-Ok-clause-sound
returns-in-Ok-clause-sound c =
    sound_run _ c.settle_reached.new.self c.done.new.self c.args.moment _ c.settle_reached.ensures.settled c.done.ensures.ended c.done.ensures.counted c.requires.ready.whole.sound.scanning

pub returns-in-Err-clause-ok : goal.returns-in-Err-clause-ok
returns-in-Err-clause-ok c =
    let p = c.args.self.now in
    let t = c.in-Some.template.now in
    let w = c.requires.ready.whole in
    let change = c.args.change.now in
    let row = c.in_ok-row.row in
    let deed = Template (TemplateModify change) in
    let is : template_named p.templates.templates c.args.change.now.name ≡ Some t = sym c.template_named.ensures ∙ ap option_copied c.in-Some.is in
    let few : are_too_many row.thresholds ≡ false = sym c.are_too_many.ensures ∙ c.if-are_too_many.false in
    let may : may_be_removed change.removed t.thresholds ≡ true = may_is c.as_slice.result.now change.removed c.as_slice-2.result.now t.thresholds c.as_slice.ensures c.as_slice-2.ensures ∙ (sym c.may_be_removed.ensures ∙ c.if-not-may_be_removed.false) in
    subst (λ (objects : Tables). IfOk c.refused_by_templates.result (λ (answer : Answer). Does p (record p { templates = c.modify.new.self; objects = objects }) c.args.moment deed answer)) (sym c.in-Err.ensures.kept)
    (refused_by p c.args.moment deed c.modify.new.self c.in-Err.fault (modify_fault p.templates p.objects.quotas row c.args.change.now.update c.room-room.result) c.refused_by_templates.result c.requires.ready.idle c.requires.ready.after
    (modify_due p c.args.moment change t is w row c.in_ok-row.ensures c.room-room.result c.room-room.ensures may few)
    c.in-Err.ensures.refused c.in-Err.ensures.err c.refused_by_templates.ensures.ok)

pub returns-in-Err-clause-sound : goal.returns-in-Err-clause-sound
returns-in-Err-clause-sound c =
    let p = c.args.self.now in
    subst (λ (objects : Tables). IsSound (record p { templates = c.modify.new.self; objects = objects })) (sym c.in-Err.ensures.kept)
    (rewritten_sound p c.modify.new.self p.objects.quotas c.requires.ready.whole c.requires.ready.whole.sound.counted)
