use Rattle.std.proofs.Common.{sym, ◌∙◌, ap}
use Rattle.std.specs.Option.{option_copied}
use Rattle.templates.proofs.HeldLaws.{found_there}
use Rattle.templates.proofs.templates.Templates.find.Goals as goal

pub returns-clause-there : goal.returns-clause-there
returns-clause-there c =
    rw (← c.self.view_is)
    (found_there c.args.name.now c.self.inside.templates.rows c.in_ok-template.template.now c.find.ensures.kept.ascending (sym c.find.ensures.row ∙ ap option_copied c.in_ok-template.was))
