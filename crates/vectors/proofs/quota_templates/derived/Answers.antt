use Rattle.std.proofs.Common.{◌∙◌, ap}
use Rattle.std.specs.List.{list_all}
use Rattle.fsrm_base.proofs.Look.{has_found}
use Rattle.fsrm_model.specs.declared.row.Threshold.{Threshold}
use Rattle.fsrm_model.specs.objects.Templates.{template_number}
use Rattle.fsrm_objects.specs.Tables.{has_short_texts, is_short}
use Rattle.vectors.proofs.quota_templates.derived.Goals as goal

pub add_quota-requires : goal.add_quota-requires
add_quota-requires c =
    let found = has_found template_number 0 c.args.templates.now.templates c.requires.there in
    ap has_short_texts (c.in_ok-quota.ensures found.row found.is)
    ∙ ap (list_all (λ (threshold : Threshold). list_all is_short threshold.actions)) (c.requires.plain found.row found.is).thresholds
