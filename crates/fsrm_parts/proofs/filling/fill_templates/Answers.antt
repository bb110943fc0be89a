use Rattle.std.proofs.Common.{List, ap, ◌∙◌}
use Rattle.fsrm_model.specs.declared.row.TemplateRow.{TemplateRow}
use Rattle.stored_rows.specs.Rows.{are_tied_autos}
use Rattle.fsrm_parts.proofs.tables.FilledLaws.{tied_autos}
use Rattle.fsrm_parts.proofs.filling.fill_templates.Goals as goal

pub templates_of-requires-clause-autos : goal.templates_of-requires-clause-autos
templates_of-requires-clause-autos c =
    ap (λ (ts : List TemplateRow). are_tied_autos ts c.as_slice-2.result.now) c.as_slice.ensures
    ∙ (ap (are_tied_autos c.args.rows.now.templates) c.as_slice-2.ensures ∙ tied_autos c.args.rows.now c.requires)
