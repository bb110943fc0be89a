use Rattle.std.proofs.Common.{◌∙◌}
use Rattle.fsrm_base.proofs.SortedRows.{has_lent}
use Rattle.fsrm_model.specs.objects.Screens.{screen_folder}
use Rattle.thresholds.proofs.screens.screen_of.Goals as goal

pub unwrap-requires : goal.unwrap-requires
unwrap-requires c = has_lent screen_folder c.args.folder c.args.objects.now.screens c.screen.result c.screen.ensures ∙ c.requires
