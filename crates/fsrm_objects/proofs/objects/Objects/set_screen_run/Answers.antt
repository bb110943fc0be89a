use Rattle.std.proofs.Common.{refl}
use Rattle.fsrm_objects.proofs.ScreenRows.{screen_run_bytes}
use Rattle.fsrm_objects.proofs.objects.Objects.set_screen_run.Goals as goal

pub change-requires-clause-keeps : goal.change-requires-clause-keeps
change-requires-clause-keeps c = record { number = λ row. refl; texts = λ row. screen_run_bytes c.args.moment c.args.place row }
