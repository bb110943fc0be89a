use Rattle.std.proofs.Common.{ℕ, List, Option, ap, refl, subst, sym, ◌∙◌}
use Rattle.std.specs.Prelude.{IfSome}
use Rattle.std.specs.Option.{option_copied}
use Rattle.file_groups.specs.Kept.{AreMembers, AreNonMembers}
use Rattle.fsrm_model.specs.declared.command.Deed.TheVariants.{Filegroup}
use Rattle.fsrm_model.specs.declared.command.FilegroupDeed.TheVariants.{Modify as FilegroupModify}
use Rattle.fsrm_model.specs.values.Patterns.{number_named}
use Rattle.fsrm_model.proofs.commands.ValueParts.{filegroup_change_parts}
use Rattle.fsrm_engine.proofs.steps.StepLaws.{refused_as}
use Rattle.fsrm_engine.proofs.tables.GroupLaws.{group_changed, group_missing, group_unchanged, retabled_counted, retabled_ended, retabled_sound}
use Rattle.fsrm_engine.proofs.tables.PatternLaws.{given_few, given_legal, given_others_few, given_others_legal}
use Rattle.fsrm_engine.proofs.parts.Parts.group_modify.Goals as goal

pub returns-in_default-clause-ok : goal.returns-in_default-clause-ok
returns-in_default-clause-ok c =
    let p = c.args.self.now in
    refused_as p c.args.moment (Filegroup (FilegroupModify c.args.change.now)) c.refused.result _ c.requires.ready.idle c.requires.ready.after
    (group_missing p c.args.moment c.args.change.now
    (ap (λ n. number_named n p.groups) (sym c.as_str.ensures) ∙ (sym c.find.ensures.found ∙ c.in_default.is))) refl c.refused.ensures

pub given_patterns-requires : goal.given_patterns-requires
given_patterns-requires c = given_legal c.args.change.now.members (filegroup_change_parts c.args.change.now c.requires.valid).members

pub given_patterns-requires-2 : goal.given_patterns-requires-2
given_patterns-requires-2 c = given_others_legal c.args.change.now.non_members (filegroup_change_parts c.args.change.now c.requires.valid).non_members

pub modify-requires-clause-members : goal.modify-requires-clause-members
modify-requires-clause-members c =
    subst (λ (given : Option (List (List ℕ))). IfSome given AreMembers) (sym (c.as_ref.ensures.value ∙ c.in_ok-members.ensures)) (given_few c.args.change.now.members (filegroup_change_parts c.args.change.now c.requires.valid).members)

pub modify-requires-clause-non_members : goal.modify-requires-clause-non_members
modify-requires-clause-non_members c =
    subst (λ (given : Option (List (List ℕ))). IfSome given AreNonMembers) (sym (c.as_ref-2.ensures.value ∙ c.in_ok-non_members.ensures)) (given_others_few c.args.change.now.non_members (filegroup_change_parts c.args.change.now c.requires.valid).non_members)

pub done-requires-clause-counted : goal.done-requires-clause-counted
done-requires-clause-counted c = retabled_counted c.args.self.now c.modify.new.self c.args.self.now.objects c.requires.ready.whole refl

pub returns-in-Ok-clause-ok : goal.returns-in-Ok-clause-ok
returns-in-Ok-clause-ok c =
    let p = c.args.self.now in
    group_changed p c.args.moment c.args.change.now c.as_str.result.now (option_copied c.as_ref.result) (option_copied c.as_ref-2.result) c.in-Some.group c.room-room.result
    c.requires.ready.whole c.requires.ready.idle c.requires.ready.after c.as_str.ensures c.in-Some.ensures.found c.in-Some.ensures.there (c.as_ref.ensures.value ∙ c.in_ok-members.ensures) (c.as_ref-2.ensures.value ∙ c.in_ok-non_members.ensures) c.room-room.ensures
    c.done.new.self c.modify.new.self c.done.result c.in-Ok.ensures.may c.in-Ok.ensures.ok c.done.ensures.ended c.done.ensures.answer

pub returns-in-Ok-clause-sound : goal.returns-in-Ok-clause-sound
returns-in-Ok-clause-sound c =
    retabled_ended c.args.self.now c.modify.new.self c.args.self.now.objects c.requires.ready.whole refl c.done.new.self c.args.moment c.done.ensures.ended c.done.ensures.counted

pub returns-clause-ok : goal.returns-clause-ok
returns-clause-ok c =
    let p = c.args.self.now in
    group_unchanged p c.args.moment c.args.change.now c.as_str.result.now (option_copied c.as_ref.result) (option_copied c.as_ref-2.result) c.in-Some.group c.room-room.result
    c.requires.ready.whole c.requires.ready.idle c.requires.ready.after c.as_str.ensures c.in-Some.ensures.found c.in-Some.ensures.there (c.as_ref.ensures.value ∙ c.in_ok-members.ensures) (c.as_ref-2.ensures.value ∙ c.in_ok-non_members.ensures) c.room-room.ensures
    c.modify.new.self c.in-Err.fault c.refused_by_groups.result c.in-Err.ensures.refused c.in-Err.ensures.err c.refused_by_groups.ensures.ok

pub returns-clause-sound : goal.returns-clause-sound
returns-clause-sound c = retabled_sound c.args.self.now c.modify.new.self c.args.self.now.objects c.requires.ready.whole refl
