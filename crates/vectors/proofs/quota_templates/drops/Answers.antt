use Rattle.std.proofs.Common.{sym, ◌∙◌, ap}
use Rattle.fsrm_model.specs.objects.AutoApply.{auto_folder}
use Rattle.fsrm_base.proofs.SortedRows.{has_lent}
use Rattle.vectors.proofs.quota_templates.drops.Goals as goal

pub drop_auto-requires : goal.drop_auto-requires
drop_auto-requires c =
    sym (has_lent auto_folder 5 c.args.templates.now.autos c.auto.result c.auto.ensures.found) ∙ (sym c.is_some-there.ensures ∙ c.if-there.true)
