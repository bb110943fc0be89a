use Rattle.std.proofs.Common.{◌∙◌, sym, arith}
use Rattle.fsrm_base.proofs.SortedRows.{has_lent}
use Rattle.fsrm_model.specs.objects.Screens.{screen_folder}
use Rattle.fsrm_objects.proofs.ScreenRows.{screen_fits}
use Rattle.fsrm_objects.proofs.objects.Objects.may_set_screen.Goals as goal

pub unwrap-old-requires : goal.unwrap-old-requires
unwrap-old-requires c =
    has_lent screen_folder c.args.row.now.folder c.self.inside.screens.rows c.get.result c.get.ensures.row ∙ (rw (← c.self.view_is) at c.requires.there)

pub texts_of_actions-bytes-requires : goal.texts_of_actions-bytes-requires
texts_of_actions-bytes-requires c = omega (arith, screen_fits c.args.row.now (sym c.is_long_screen.ensures ∙ c.if-is_long_screen.false) c.requires.texts)
