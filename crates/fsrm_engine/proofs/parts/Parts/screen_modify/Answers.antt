use Rattle.std.proofs.Common.{ℕ, ◌&&◌, List, ap, ◌∙◌}
use Rattle.fsrm_model.specs.declared.command.Deed.TheVariants.{Screen}
use Rattle.fsrm_model.specs.declared.command.ScreenDeed.TheVariants.{Modify as ScreenModify}
use Rattle.fsrm_model.specs.commands.ScreenWork.{are_named, changed_groups, may_be_taken, numbers_named, rescreened}
use Rattle.fsrm_objects.specs.Tables.{Tables}
use Rattle.fsrm_engine.specs.Machine.{rows_of}
use Rattle.fsrm_engine.proofs.coming.MemoryLaws.{folder_wants}
use Rattle.fsrm_parts.proofs.tables.AnswerLaws.{on_err}
use Rattle.fsrm_engine.proofs.steps.StepLaws.{refused_as}
use Rattle.fsrm_engine.proofs.tables.GroupLaws.{retabled_counted, retabled_ended, retabled_sound}
use Rattle.fsrm_engine.proofs.tables.ScreenLaws.{found_groups, screen_bare, screen_changed, screen_first, screen_unchanged, short_still, there_still}
use Rattle.fsrm_engine.proofs.parts.Parts.screen_modify.Goals as goal

pub returns-in-Err-clause-ok : goal.returns-in-Err-clause-ok
returns-in-Err-clause-ok g c =
    let p = c.args.self.now in
    refused_as p c.args.moment (Screen (ScreenModify c.args.change.now)) c.refused.result _ c.requires.ready.idle c.requires.ready.after
    (screen_first (rows_of p) c.args.change.now.path _ _ c.in-Err.ensures.err) (screen_bare (rows_of p) c.args.change.now.path _ c.in-Err.ensures.err) c.refused.ensures

pub set_screen-requires-clause-there : goal.set_screen-requires-clause-there
set_screen-requires-clause-there g c =
    let p = c.args.self.now in
    let old = c.in-Ok.screen.now in
    let removed = c.args.change.now.removed in
    let added = c.args.change.now.groups in
    let gone = numbers_named p.groups removed in
    let f = found_groups ((are_named p.groups removed && are_named p.groups added) && may_be_taken gone old.groups) (changed_groups gone (numbers_named p.groups added) old.groups) c.in-Some.groups c.in_ok-groups.field-0 c.in-Some.is c.in_ok-groups.ensures in
    there_still p c.args.moment c.args.change.now old c.in-Ok.ensures.at c.in-Ok.ensures.found c.requires.ready.whole f.0 c.in_ok-row.row
    (c.in_ok-row.ensures ∙ ap (λ (groups : List ℕ). rescreened c.args.change.now.active groups old) f.1) c.room-room.result

pub set_screen-requires-clause-texts : goal.set_screen-requires-clause-texts
set_screen-requires-clause-texts g c =
    let p = c.args.self.now in
    let old = c.in-Ok.screen.now in
    let removed = c.args.change.now.removed in
    let added = c.args.change.now.groups in
    let gone = numbers_named p.groups removed in
    let f = found_groups ((are_named p.groups removed && are_named p.groups added) && may_be_taken gone old.groups) (changed_groups gone (numbers_named p.groups added) old.groups) c.in-Some.groups c.in_ok-groups.field-0 c.in-Some.is c.in_ok-groups.ensures in
    short_still p c.args.moment c.args.change.now old c.in-Ok.ensures.at c.in-Ok.ensures.found c.requires.ready.whole f.0 c.in_ok-row.row
    (c.in_ok-row.ensures ∙ ap (λ (groups : List ℕ). rescreened c.args.change.now.active groups old) f.1) c.room-room.result

pub done-requires-clause-counted : goal.done-requires-clause-counted
done-requires-clause-counted g c =
    retabled_counted c.args.self.now c.args.self.now.groups c.set_screen.new.self c.requires.ready.whole (ap (λ (t : Tables). t.quotas) c.in-Ok-set_screen.ensures.ok)

pub returns-in-Ok-set_screen-clause-ok : goal.returns-in-Ok-set_screen-clause-ok
returns-in-Ok-set_screen-clause-ok g c =
    let p = c.args.self.now in
    let old = c.in-Ok.screen.now in
    let removed = c.args.change.now.removed in
    let added = c.args.change.now.groups in
    let gone = numbers_named p.groups removed in
    let f = found_groups ((are_named p.groups removed && are_named p.groups added) && may_be_taken gone old.groups) (changed_groups gone (numbers_named p.groups added) old.groups) c.in-Some.groups c.in_ok-groups.field-0 c.in-Some.is c.in_ok-groups.ensures in
    screen_changed p c.args.moment c.args.change.now old c.in-Ok.ensures.at c.in-Ok.ensures.found c.requires.ready.whole f.0 c.in_ok-row.row
    (c.in_ok-row.ensures ∙ ap (λ (groups : List ℕ). rescreened c.args.change.now.active groups old) f.1) c.room-room.result
    c.requires.ready.idle c.requires.ready.after c.set_screen.new.self c.done.new.self c.done.result c.in-Ok-set_screen.ensures.may c.in-Ok-set_screen.ensures.ok c.done.ensures.ended c.done.ensures.answer

pub returns-in-Ok-set_screen-clause-sound : goal.returns-in-Ok-set_screen-clause-sound
returns-in-Ok-set_screen-clause-sound g c =
    retabled_ended c.args.self.now c.args.self.now.groups c.set_screen.new.self c.requires.ready.whole (ap (λ (t : Tables). t.quotas) c.in-Ok-set_screen.ensures.ok) c.done.new.self c.args.moment c.done.ensures.ended c.done.ensures.counted

pub returns-in-Err-set_screen-clause-ok : goal.returns-in-Err-set_screen-clause-ok
returns-in-Err-set_screen-clause-ok g c =
    let p = c.args.self.now in
    let old = c.in-Ok.screen.now in
    let removed = c.args.change.now.removed in
    let added = c.args.change.now.groups in
    let gone = numbers_named p.groups removed in
    let f = found_groups ((are_named p.groups removed && are_named p.groups added) && may_be_taken gone old.groups) (changed_groups gone (numbers_named p.groups added) old.groups) c.in-Some.groups c.in_ok-groups.field-0 c.in-Some.is c.in_ok-groups.ensures in
    screen_unchanged p c.args.moment c.args.change.now old c.in-Ok.ensures.at c.in-Ok.ensures.found c.requires.ready.whole f.0 c.in_ok-row.row
    (c.in_ok-row.ensures ∙ ap (λ (groups : List ℕ). rescreened c.args.change.now.active groups old) f.1) c.room-room.result
    c.requires.ready.idle c.requires.ready.after c.set_screen.new.self c.in-Err-set_screen.fault c.refused_for.result c.in-Err-set_screen.ensures.refused c.in-Err-set_screen.ensures.err c.refused_for.ensures.ok

pub returns-in-Err-set_screen-clause-sound : goal.returns-in-Err-set_screen-clause-sound
returns-in-Err-set_screen-clause-sound g c =
    retabled_sound c.args.self.now c.args.self.now.groups c.set_screen.new.self c.requires.ready.whole (ap (λ (t : Tables). t.quotas) c.in-Err-set_screen.ensures.err)

pub returns-in_err-groups-clause-memory : goal.returns-in_err-groups-clause-memory
returns-in_err-groups-clause-memory g c = on_err _ (folder_wants c.args.self.now.tree.nodes c.args.change.now.path c.in-Ok.screen.now.folder c.in-Ok.ensures.at)

pub returns-in_err-row-clause-memory : goal.returns-in_err-row-clause-memory
returns-in_err-row-clause-memory g c = on_err _ (folder_wants c.args.self.now.tree.nodes c.args.change.now.path c.in-Ok.screen.now.folder c.in-Ok.ensures.at)

pub returns-in-Err-set_screen-clause-memory : goal.returns-in-Err-set_screen-clause-memory
returns-in-Err-set_screen-clause-memory g c = on_err c.refused_for.result (folder_wants c.args.self.now.tree.nodes c.args.change.now.path c.in-Ok.screen.now.folder c.in-Ok.ensures.at)
