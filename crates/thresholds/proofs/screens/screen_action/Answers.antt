use Rattle.fsrm_base.proofs.Look.{found_has}
use Rattle.fsrm_model.specs.objects.Screens.{screen_folder}
use Rattle.thresholds.proofs.ScreenLaws.{found_action}
use Rattle.thresholds.proofs.screens.screen_action.Goals as goal

pub screen_of-screen-requires : goal.screen_of-screen-requires
screen_of-screen-requires c =
    let screens = c.args.objects.now.screens in
    let is = found_action screens c.args.folder c.args.place c.requires in
    found_has screen_folder c.args.folder screens is.screen is.screen_is
