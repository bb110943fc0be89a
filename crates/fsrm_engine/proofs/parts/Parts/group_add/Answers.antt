use Rattle.std.proofs.Common.{refl, subst, sym}
use Rattle.file_groups.specs.Kept.{AreMembers, AreNonMembers}
use Rattle.fsrm_model.proofs.commands.ValueParts.{new_filegroup_parts}
use Rattle.fsrm_engine.proofs.tables.GroupLaws.{group_added, group_unadded, retabled_counted, retabled_ended, retabled_sound}
use Rattle.fsrm_engine.proofs.tables.PatternLaws.{members_few, members_legal, others_few, others_legal}
use Rattle.fsrm_engine.proofs.parts.Parts.group_add.Goals as goal

pub patterns_of-requires : goal.patterns_of-requires
patterns_of-requires c = members_legal c.args.group.now.members (new_filegroup_parts c.args.group.now c.requires.valid).members

pub patterns_of-requires-2 : goal.patterns_of-requires-2
patterns_of-requires-2 c = others_legal c.args.group.now.non_members (new_filegroup_parts c.args.group.now c.requires.valid).non_members

pub add-requires-clause-members : goal.add-requires-clause-members
add-requires-clause-members c =
    subst AreMembers (sym c.in_ok-members.ensures) (members_few c.args.group.now.members (new_filegroup_parts c.args.group.now c.requires.valid).members)

pub add-requires-clause-non_members : goal.add-requires-clause-non_members
add-requires-clause-non_members c =
    subst AreNonMembers (sym c.in_ok-non_members.ensures) (others_few c.args.group.now.non_members (new_filegroup_parts c.args.group.now c.requires.valid).non_members)

pub done-requires-clause-counted : goal.done-requires-clause-counted
done-requires-clause-counted c = retabled_counted c.args.self.now c.add.new.self c.args.self.now.objects c.requires.ready.whole refl

pub returns-in-Ok-clause-ok : goal.returns-in-Ok-clause-ok
returns-in-Ok-clause-ok c =
    let p = c.args.self.now in
    group_added p c.args.moment c.args.group.now c.as_str.result.now c.in_ok-members.members c.in_ok-non_members.non_members c.room-room.result
    c.requires.ready.whole c.requires.ready.idle c.requires.ready.after c.as_str.ensures c.in_ok-members.ensures c.in_ok-non_members.ensures c.room-room.ensures
    c.done.new.self c.add.new.self c.done.result c.in-Ok.ensures.may c.in-Ok.ensures.ok c.done.ensures.ended c.done.ensures.answer

pub returns-in-Ok-clause-sound : goal.returns-in-Ok-clause-sound
returns-in-Ok-clause-sound c =
    retabled_ended c.args.self.now c.add.new.self c.args.self.now.objects c.requires.ready.whole refl c.done.new.self c.args.moment c.done.ensures.ended c.done.ensures.counted

pub returns-in-Err-clause-ok : goal.returns-in-Err-clause-ok
returns-in-Err-clause-ok c =
    group_unadded c.args.self.now c.args.moment c.args.group.now c.as_str.result.now c.in_ok-members.members c.in_ok-non_members.non_members c.room-room.result
    c.requires.ready.whole c.requires.ready.idle c.requires.ready.after c.as_str.ensures c.in_ok-members.ensures c.in_ok-non_members.ensures c.room-room.ensures
    c.add.new.self c.in-Err.fault c.refused_by_groups.result c.in-Err.ensures.refused c.in-Err.ensures.err c.refused_by_groups.ensures.ok

pub returns-in-Err-clause-sound : goal.returns-in-Err-clause-sound
returns-in-Err-clause-sound c = retabled_sound c.args.self.now c.add.new.self c.args.self.now.objects c.requires.ready.whole refl
