use Rattle.std.proofs.Common.{Some, ap, sym, ◌∙◌}
use Rattle.std.specs.Prelude.{option_map}
use Rattle.fsrm_base.proofs.Look.{has_found}
use Rattle.fsrm_model.specs.objects.Templates.{template_name, template_number, template_of}
use Rattle.vectors.proofs.quota_templates.follow.Goals as goal

pub modify-requires-clause-named : goal.modify-requires-clause-named
modify-requires-clause-named c =
    let templates = c.args.templates.now.templates in
    let found = has_found template_number 0 templates c.requires.there in
    ap (λ n. option_map template_name (template_of templates n)) c.in_ok-row.ensures.number
    ∙ (ap (option_map template_name) found.is ∙ ap Some ((c.requires.plain found.row found.is).name ∙ sym c.in_ok-row.ensures.plain.name))
