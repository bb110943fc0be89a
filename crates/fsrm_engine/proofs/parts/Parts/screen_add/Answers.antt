use Rattle.std.proofs.Common.{ℕ, List, ap, refl, ◌∙◌}
use Rattle.std.specs.Prelude.{fold}
use Rattle.fsrm_model.specs.declared.command.Deed.TheVariants.{Screen}
use Rattle.fsrm_model.specs.declared.command.ScreenDeed.TheVariants.{Add as ScreenAdd}
use Rattle.fsrm_model.specs.objects.Screens.{except_of, screen_of}
use Rattle.fsrm_model.specs.commands.ScreenWork.{are_named, new_screen, numbers_named, with_last}
use Rattle.fsrm_model.proofs.commands.ValueParts.{new_screen_parts}
use Rattle.fsrm_objects.specs.Tables.{Tables, has_short_actions}
use Rattle.fsrm_engine.specs.Machine.{rows_of}
use Rattle.fsrm_engine.proofs.coming.MemoryLaws.{folder_wants}
use Rattle.fsrm_parts.proofs.tables.AnswerLaws.{on_err}
use Rattle.fsrm_engine.proofs.steps.StepLaws.{refused_as}
use Rattle.fsrm_engine.proofs.tables.GroupLaws.{retabled_counted, retabled_ended, retabled_sound}
use Rattle.fsrm_engine.proofs.tables.ScreenLaws.{found_groups, lent_some, new_short, screen_added, screen_excepted, screen_taken, screen_unadded}
use Rattle.fsrm_parts.proofs.walks.FoundLaws.{missing}
use Rattle.fsrm_engine.proofs.parts.Parts.screen_add.Goals as goal

pub returns-in_default-clause-ok : goal.returns-in_default-clause-ok
returns-in_default-clause-ok g c =
    let p = c.args.self.now in
    refused_as p c.args.moment (Screen (ScreenAdd c.args.screen.now)) c.refused.result _ c.requires.ready.idle c.requires.ready.after
    (missing p.tree.nodes c.args.screen.now.path _ c.in_default.ensures.folder) refl c.refused.ensures

pub returns-then-is_some-clause-ok : goal.returns-then-is_some-clause-ok
returns-then-is_some-clause-ok g c =
    let p = c.args.self.now in
    refused_as p c.args.moment (Screen (ScreenAdd c.args.screen.now)) c.refused-then-is_some.result _ c.requires.ready.idle c.requires.ready.after
    (screen_taken p c.args.moment c.args.screen.now c.in-Some.folder c.in-Some.ensures.folder (lent_some c.screen.result (screen_of (rows_of p) c.in-Some.folder) c.is_some.result _ c.screen.ensures c.is_some.ensures c.if-is_some.true)) refl c.refused-then-is_some.ensures

pub returns-then-is_some-2-clause-ok : goal.returns-then-is_some-2-clause-ok
returns-then-is_some-2-clause-ok g c =
    let p = c.args.self.now in
    refused_as p c.args.moment (Screen (ScreenAdd c.args.screen.now)) c.refused-then-is_some-2.result _ c.requires.ready.idle c.requires.ready.after
    (screen_excepted p c.args.moment c.args.screen.now c.in-Some.folder c.in-Some.ensures.folder (lent_some c.screen.result (screen_of (rows_of p) c.in-Some.folder) c.is_some.result _ c.screen.ensures c.is_some.ensures c.if-is_some.false) (lent_some c.except.result (except_of (rows_of p) c.in-Some.folder) c.is_some-2.result _ c.except.ensures c.is_some-2.ensures c.if-is_some-2.true)) refl c.refused-then-is_some-2.ensures

pub add_screen-requires : goal.add_screen-requires
add_screen-requires g c = ap has_short_actions c.in_ok-row.ensures ∙ new_short c.args.screen.now.actions (new_screen_parts c.args.screen.now c.requires.valid).actions

pub done-requires-clause-counted : goal.done-requires-clause-counted
done-requires-clause-counted g c =
    retabled_counted c.args.self.now c.args.self.now.groups c.add_screen.new.self c.requires.ready.whole (ap (λ (t : Tables). t.quotas) c.in-Ok.ensures.ok)

pub returns-in-Ok-clause-ok : goal.returns-in-Ok-clause-ok
returns-in-Ok-clause-ok g c =
    let p = c.args.self.now in
    let n = c.in-Some.folder in
    let names = c.args.screen.now.groups in
    let f = found_groups (are_named p.groups names) (fold with_last c.new.result (numbers_named p.groups names)) c.in-Some-2.groups c.in_ok-groups.field-0 c.in-Some-2.is c.in_ok-groups.ensures in
    screen_added p c.args.moment c.args.screen.now n c.in-Some.ensures.folder
    (lent_some c.screen.result (screen_of (rows_of p) n) c.is_some.result _ c.screen.ensures c.is_some.ensures c.if-is_some.false)
    (lent_some c.except.result (except_of (rows_of p) n) c.is_some-2.result _ c.except.ensures c.is_some-2.ensures c.if-is_some-2.false)
    c.requires.ready.whole (new_screen_parts c.args.screen.now c.requires.valid).groups f.0 c.in_ok-row.row
    (c.in_ok-row.ensures ∙ ap (λ (groups : List ℕ). new_screen n c.args.screen.now.active groups c.args.screen.now.actions) (f.1 ∙ ap (λ (there : List ℕ). fold with_last there (numbers_named p.groups names)) c.new.ensures))
    c.room-room.result c.room-room.ensures c.requires.ready.idle c.requires.ready.after c.add_screen.new.self c.done.new.self c.done.result c.in-Ok.ensures.may c.in-Ok.ensures.ok c.done.ensures.ended c.done.ensures.answer

pub returns-in-Ok-clause-sound : goal.returns-in-Ok-clause-sound
returns-in-Ok-clause-sound g c =
    retabled_ended c.args.self.now c.args.self.now.groups c.add_screen.new.self c.requires.ready.whole (ap (λ (t : Tables). t.quotas) c.in-Ok.ensures.ok) c.done.new.self c.args.moment c.done.ensures.ended c.done.ensures.counted

pub returns-in-Err-clause-ok : goal.returns-in-Err-clause-ok
returns-in-Err-clause-ok g c =
    let p = c.args.self.now in
    let n = c.in-Some.folder in
    let names = c.args.screen.now.groups in
    let f = found_groups (are_named p.groups names) (fold with_last c.new.result (numbers_named p.groups names)) c.in-Some-2.groups c.in_ok-groups.field-0 c.in-Some-2.is c.in_ok-groups.ensures in
    screen_unadded p c.args.moment c.args.screen.now n c.in-Some.ensures.folder
    (lent_some c.screen.result (screen_of (rows_of p) n) c.is_some.result _ c.screen.ensures c.is_some.ensures c.if-is_some.false)
    (lent_some c.except.result (except_of (rows_of p) n) c.is_some-2.result _ c.except.ensures c.is_some-2.ensures c.if-is_some-2.false)
    c.requires.ready.whole (new_screen_parts c.args.screen.now c.requires.valid).groups f.0 c.in_ok-row.row
    (c.in_ok-row.ensures ∙ ap (λ (groups : List ℕ). new_screen n c.args.screen.now.active groups c.args.screen.now.actions) (f.1 ∙ ap (λ (there : List ℕ). fold with_last there (numbers_named p.groups names)) c.new.ensures))
    c.room-room.result c.room-room.ensures c.requires.ready.idle c.requires.ready.after c.add_screen.new.self c.in-Err.fault c.refused_for.result c.in-Err.ensures.refused c.in-Err.ensures.err c.refused_for.ensures.ok

pub returns-in-Err-clause-sound : goal.returns-in-Err-clause-sound
returns-in-Err-clause-sound g c =
    retabled_sound c.args.self.now c.args.self.now.groups c.add_screen.new.self c.requires.ready.whole (ap (λ (t : Tables). t.quotas) c.in-Err.ensures.err)

pub returns-in_err-groups-clause-memory : goal.returns-in_err-groups-clause-memory
returns-in_err-groups-clause-memory g c = on_err _ (folder_wants c.args.self.now.tree.nodes c.args.screen.now.path c.in-Some.folder c.in-Some.ensures.folder)

pub returns-in_err-row-clause-memory : goal.returns-in_err-row-clause-memory
returns-in_err-row-clause-memory g c = on_err _ (folder_wants c.args.self.now.tree.nodes c.args.screen.now.path c.in-Some.folder c.in-Some.ensures.folder)

pub returns-in-Err-clause-memory : goal.returns-in-Err-clause-memory
returns-in-Err-clause-memory g c = on_err c.refused_for.result (folder_wants c.args.self.now.tree.nodes c.args.screen.now.path c.in-Some.folder c.in-Some.ensures.folder)
