use Rattle.std.proofs.Common.{sym, ◌∙◌}
use Rattle.templates.proofs.HeldLaws.{less_tied}
use Rattle.templates.proofs.templates.Templates.delete.Goals as goal

pub invariant_of-self : goal.invariant_of-self
invariant_of-self c = rw c.remove.ensures.rest (less_tied c.self.view_is c.self.invariant c.args.number (sym c.is_used.ensures ∙ c.if-is_used.false))
