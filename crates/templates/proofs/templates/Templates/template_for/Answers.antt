use Rattle.templates.proofs.templates.Templates.template_for.Goals as goal

pub returns-clause-there : goal.returns-clause-there
returns-clause-there c = rw (← c.in_ok-auto.ensures.found) at c.in_ok-auto.ensures.there
