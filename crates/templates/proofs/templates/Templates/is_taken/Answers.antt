use Rattle.std.proofs.Common.{◌∙◌}
use Rattle.fsrm_model.specs.objects.Templates.{template_name}
use Rattle.fsrm_model.specs.values.Name.{is_named}
use Rattle.row_table.proofs.HeldLaws.{lent_any}
use Rattle.templates.proofs.templates.Templates.is_taken.Goals as goal

pub returns : goal.returns
returns c = rw (← c.self.view_is) (c.is_some.ensures ∙ lent_any (is_named template_name c.args.name.now) c.self.inside.templates.rows c.find.result c.find.ensures.row)
