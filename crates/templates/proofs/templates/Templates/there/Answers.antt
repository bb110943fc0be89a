use Rattle.std.proofs.Common.{sym, ◌∙◌, ap}
use Rattle.std.specs.Option.{option_copied}
use Rattle.fsrm_base.proofs.SortedRows.{has_lent}
use Rattle.fsrm_model.specs.objects.Templates.{template_number}
use Rattle.templates.proofs.HeldLaws.{valid_one}
use Rattle.templates.proofs.templates.Templates.there.Goals as goal

pub unwrap-requires : goal.unwrap-requires
unwrap-requires c = has_lent template_number c.args.number c.self.inside.templates.rows c.get.result c.get.ensures.row ∙ (rw (← c.self.view_is) at c.requires)

pub returns-clause-valid : goal.returns-clause-valid
returns-clause-valid c =
    valid_one c.self.view_is c.self.invariant c.args.number c.unwrap.result.now
    (rw (← c.self.view_is) (sym c.get.ensures.row ∙ ap option_copied c.unwrap.ensures))
