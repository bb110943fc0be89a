use Rattle.templates.proofs.HeldLaws.{other_tied}
use Rattle.templates.proofs.templates.Templates.replace.Goals as goal

pub invariant_of-self : goal.invariant_of-self
invariant_of-self c = rw c.swap.ensures.put (other_tied c.self.view_is c.self.invariant c.args.row c.requires.ascending c.requires.named c.requires.valid)
