use Rattle.fsrm_objects.proofs.FaultLaws.{screen_admitted}
use Rattle.fsrm_objects.proofs.ScreenRows.{screen_fits}
use Rattle.fsrm_objects.proofs.objects.Objects.add_screen.Goals as goal

pub insert-requires-clause-small : goal.insert-requires-clause-small
insert-requires-clause-small c = screen_fits c.args.row (screen_admitted c.args.self.now c.args.row c.args.room c.in_ok-admit_screen.ensures.may).short c.requires
