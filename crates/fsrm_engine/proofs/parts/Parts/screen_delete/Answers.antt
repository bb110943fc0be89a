use Rattle.std.proofs.Common.{ap}
use Rattle.fsrm_base.proofs.Look.{found_has}
use Rattle.fsrm_model.specs.declared.command.Deed.TheVariants.{Screen}
use Rattle.fsrm_model.specs.declared.command.ScreenDeed.TheVariants.{Delete as ScreenDelete}
use Rattle.fsrm_model.specs.objects.Screens.{screen_folder}
use Rattle.fsrm_objects.specs.Tables.{Tables}
use Rattle.fsrm_engine.specs.Machine.{rows_of}
use Rattle.fsrm_engine.proofs.steps.StepLaws.{refused_as}
use Rattle.fsrm_engine.proofs.tables.GroupLaws.{retabled_counted, retabled_ended}
use Rattle.fsrm_engine.proofs.tables.ScreenLaws.{screen_bare, screen_deleted}
use Rattle.fsrm_engine.proofs.parts.Parts.screen_delete.Goals as goal

pub returns-in-Err-clause-ok : goal.returns-in-Err-clause-ok
returns-in-Err-clause-ok g c =
    let p = c.args.self.now in
    refused_as p c.args.moment (Screen (ScreenDelete c.args.path.now)) c.refused.result _ c.requires.ready.idle c.requires.ready.after c.in-Err.ensures.err (screen_bare (rows_of p) c.args.path.now _ c.in-Err.ensures.err) c.refused.ensures

pub drop_screen-requires : goal.drop_screen-requires
drop_screen-requires g c =
    let screen = c.in-Ok.screen.now in
    found_has screen_folder screen.folder c.args.self.now.objects.screens screen c.in-Ok.ensures.found

pub done-requires-clause-counted : goal.done-requires-clause-counted
done-requires-clause-counted g c =
    retabled_counted c.args.self.now c.args.self.now.groups c.drop_screen.new.self c.requires.ready.whole (ap (λ (t : Tables). t.quotas) c.drop_screen.ensures)

pub returns-clause-ok : goal.returns-clause-ok
returns-clause-ok g c =
    screen_deleted c.args.self.now c.done.new.self c.args.moment c.args.path.now c.in-Ok.screen.now c.drop_screen.new.self c.done.result c.requires.ready.whole c.requires.ready.idle c.requires.ready.after c.in-Ok.ensures.at c.in-Ok.ensures.found
    c.drop_screen.ensures c.done.ensures.ended c.done.ensures.answer

pub returns-clause-sound : goal.returns-clause-sound
returns-clause-sound g c =
    retabled_ended c.args.self.now c.args.self.now.groups c.drop_screen.new.self c.requires.ready.whole (ap (λ (t : Tables). t.quotas) c.drop_screen.ensures) c.done.new.self c.args.moment c.done.ensures.ended c.done.ensures.counted
