use Rattle.std.proofs.Common.{◌==◌, ◌∙◌}
use Rattle.fsrm_model.specs.declared.row.AutoRow.{AutoRow}
use Rattle.row_table.proofs.HeldLaws.{lent_any}
use Rattle.templates.proofs.templates.Templates.is_used.Goals as goal

pub returns : goal.returns
returns c = rw (← c.self.view_is) (c.is_some.ensures ∙ lent_any (λ (auto : AutoRow). auto.template == c.args.number) c.self.inside.autos.rows c.find.result c.find.ensures.row)
