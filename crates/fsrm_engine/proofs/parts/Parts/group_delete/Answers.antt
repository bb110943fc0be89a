use Rattle.std.proofs.Common.{ap, refl, sym, ◌∙◌}
use Rattle.fsrm_model.specs.declared.command.Deed.TheVariants.{Filegroup}
use Rattle.fsrm_model.specs.declared.command.FilegroupDeed.TheVariants.{Delete as FilegroupDelete}
use Rattle.fsrm_model.specs.values.Patterns.{number_named}
use Rattle.fsrm_engine.proofs.steps.StepLaws.{refused_as}
use Rattle.fsrm_engine.proofs.tables.GroupLaws.{group_deleted, group_gone, group_used, retabled_counted, retabled_ended}
use Rattle.fsrm_engine.proofs.parts.Parts.group_delete.Goals as goal

pub returns-in_default-clause-ok : goal.returns-in_default-clause-ok
returns-in_default-clause-ok c =
    let p = c.args.self.now in
    refused_as p c.args.moment (Filegroup (FilegroupDelete c.args.name.now)) c.refused.result _ c.requires.ready.idle c.requires.ready.after
    (group_gone p c.args.moment c.args.name.now (ap (λ n. number_named n p.groups) (sym c.as_str.ensures) ∙ (sym c.find.ensures.found ∙ c.in_default.is))) refl c.refused.ensures

pub returns-then-is_used-clause-ok : goal.returns-then-is_used-clause-ok
returns-then-is_used-clause-ok c =
    let p = c.args.self.now in
    refused_as p c.args.moment (Filegroup (FilegroupDelete c.args.name.now)) c.refused-then-is_used.result _ c.requires.ready.idle c.requires.ready.after
    (group_used p c.args.moment c.args.name.now c.as_str.result.now c.in-Some.group c.as_str.ensures c.in-Some.ensures.found (sym c.is_used.ensures ∙ c.if-is_used.true)) refl c.refused-then-is_used.ensures

pub done-requires-clause-counted : goal.done-requires-clause-counted
done-requires-clause-counted c = retabled_counted c.args.self.now c.delete.new.self c.args.self.now.objects c.requires.ready.whole refl

pub returns-clause-ok : goal.returns-clause-ok
returns-clause-ok c =
    group_deleted c.args.self.now c.args.moment c.args.name.now c.as_str.result.now c.in-Some.group c.as_str.ensures c.in-Some.ensures.found c.done.new.self c.delete.new.self c.done.result
    c.requires.ready.whole c.requires.ready.idle c.requires.ready.after (sym c.is_used.ensures ∙ c.if-is_used.false) c.delete.ensures.without c.done.ensures.ended c.done.ensures.answer

pub returns-clause-sound : goal.returns-clause-sound
returns-clause-sound c =
    retabled_ended c.args.self.now c.delete.new.self c.args.self.now.objects c.requires.ready.whole refl c.done.new.self c.args.moment c.done.ensures.ended c.done.ensures.counted
