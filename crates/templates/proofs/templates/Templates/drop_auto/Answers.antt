use Rattle.templates.proofs.HeldLaws.{auto_less}
use Rattle.templates.proofs.templates.Templates.drop_auto.Goals as goal

pub invariant_of-self : goal.invariant_of-self
invariant_of-self c = rw c.remove.ensures.rest (auto_less c.self.view_is c.self.invariant c.args.folder)
