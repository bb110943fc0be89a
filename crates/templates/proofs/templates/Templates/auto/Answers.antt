use Rattle.templates.proofs.HeldLaws.{source_there}
use Rattle.templates.proofs.templates.Templates.auto.Goals as goal

pub returns-clause-there : goal.returns-clause-there
returns-clause-there c = source_there c.self.view_is c.self.invariant c.args.folder
