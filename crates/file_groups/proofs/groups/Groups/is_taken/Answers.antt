use Rattle.std.proofs.Common.{◌∙◌}
use Rattle.fsrm_model.specs.values.Patterns.{has_name}
use Rattle.row_table.proofs.HeldLaws.{lent_any}
use Rattle.file_groups.proofs.groups.Groups.is_taken.Goals as goal

pub returns-clause-taken : goal.returns-clause-taken
returns-clause-taken c = rw (← c.self.view_is) (c.is_some.ensures ∙ lent_any (has_name c.args.name.now) c.self.inside.groups.rows c.find.result c.find.ensures.row)
