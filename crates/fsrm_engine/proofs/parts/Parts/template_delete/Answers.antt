use Rattle.std.proofs.Common.{◌≡◌, Some, refl, ap, sym, ◌∙◌, subst}
use Rattle.std.specs.Prelude.{map}
use Rattle.std.specs.Option.{option_copied}
use Rattle.fsrm_model.specs.declared.command.Deed.TheVariants.{Template}
use Rattle.fsrm_model.specs.declared.command.TemplateDeed.TheVariants.{Delete as TemplateDelete}
use Rattle.fsrm_model.specs.objects.Templates.{template_named, without_source}
use Rattle.fsrm_objects.specs.Tables.{Tables}
use Rattle.templates.specs.Held.{Held}
use Rattle.fsrm_engine.specs.Machine.{Does, ended}
use Rattle.fsrm_engine.proofs.steps.StepLaws.{refused_as}
use Rattle.fsrm_engine.proofs.tables.SourceLaws.{named_there}
use Rattle.fsrm_engine.proofs.tables.TemplateLaws.{delete_missing, delete_used, gone_counted, rewritten_ended, template_deleted}
use Rattle.fsrm_engine.proofs.parts.Parts.template_delete.Goals as goal

pub returns-in_default-clause-ok : goal.returns-in_default-clause-ok
returns-in_default-clause-ok c =
    let p = c.args.self.now in
    refused_as p c.args.moment (Template (TemplateDelete c.args.name.now)) c.refused.result _ c.requires.ready.idle c.requires.ready.after
    (delete_missing p c.args.moment c.args.name.now (sym c.template_named.ensures ∙ ap option_copied c.in_default.is)) refl c.refused.ensures

pub delete-requires : goal.delete-requires
delete-requires c =
    let p = c.args.self.now in
    let is : template_named p.templates.templates c.args.name.now ≡ Some c.in-Some.template.now = sym c.template_named.ensures ∙ ap option_copied c.in-Some.is in
    named_there p c.args.name.now c.in-Some.template.now c.requires.ready.whole.valid is

pub returns-in_default-delete-clause-ok : goal.returns-in_default-delete-clause-ok
returns-in_default-delete-clause-ok c =
    let p = c.args.self.now in
    let is : template_named p.templates.templates c.args.name.now ≡ Some c.in-Some.template.now = sym c.template_named.ensures ∙ ap option_copied c.in-Some.is in
    subst (λ (h : Held). Does p (record p { templates = h }) c.args.moment (Template (TemplateDelete c.args.name.now)) c.refused-in_default-delete.result) (sym c.in_default-delete.ensures.err)
    (refused_as p c.args.moment (Template (TemplateDelete c.args.name.now)) c.refused-in_default-delete.result _ c.requires.ready.idle c.requires.ready.after
    (delete_used p c.args.moment c.args.name.now c.in-Some.template.now is _ c.in_default-delete.ensures.refused) refl c.refused-in_default-delete.ensures)

pub done-requires-clause-counted : goal.done-requires-clause-counted
done-requires-clause-counted c =
    let p = c.args.self.now in
    let is : template_named p.templates.templates c.args.name.now ≡ Some c.in-Some.template.now = sym c.template_named.ensures ∙ ap option_copied c.in-Some.is in
    gone_counted p c.args.moment c.args.name.now c.in-Some.template.now is c.clear_template.new.self.quotas c.requires.ready.whole (ap (λ (t : Tables). t.quotas) c.clear_template.ensures)

pub returns-clause-ok : goal.returns-clause-ok
returns-clause-ok c =
    let p = c.args.self.now in
    let t = c.in-Some.template.now in
    let is : template_named p.templates.templates c.args.name.now ≡ Some t = sym c.template_named.ensures ∙ ap option_copied c.in-Some.is in
    template_deleted p c.args.moment c.args.name.now t is c.done.new.self c.delete.new.self (map (without_source t.number) p.objects.quotas) c.done.result
    c.requires.ready.whole c.requires.ready.idle c.requires.ready.after c.in-Ok.ensures.may c.in-Ok.ensures.ok refl
    (subst (λ (tables : Tables). c.done.new.self ≡ ended (record p { templates = c.delete.new.self; objects = tables }) c.args.moment) c.clear_template.ensures c.done.ensures.ended) c.done.ensures.answer

pub returns-clause-sound : goal.returns-clause-sound
returns-clause-sound c =
    let p = c.args.self.now in
    let t = c.in-Some.template.now in
    let is : template_named p.templates.templates c.args.name.now ≡ Some t = sym c.template_named.ensures ∙ ap option_copied c.in-Some.is in
    rewritten_ended p c.delete.new.self (map (without_source t.number) p.objects.quotas) c.requires.ready.whole (gone_counted p c.args.moment c.args.name.now t is (map (without_source t.number) p.objects.quotas) c.requires.ready.whole refl) c.done.new.self c.args.moment
    (subst (λ (tables : Tables). c.done.new.self ≡ ended (record p { templates = c.delete.new.self; objects = tables }) c.args.moment) c.clear_template.ensures c.done.ensures.ended) c.done.ensures.counted
