use Rattle.fsrm_objects.proofs.FaultLaws.{short_screen}
use Rattle.fsrm_objects.proofs.ScreenRows.{screen_fits}
use Rattle.fsrm_objects.proofs.objects.Objects.set_screen.Goals as goal

pub swap-requires-clause-small : goal.swap-requires-clause-small
swap-requires-clause-small c = screen_fits c.args.row (short_screen c.args.self.now c.args.row c.args.room c.in_ok-may_set_screen.ensures.may) c.requires.texts
