use Rattle.templates.proofs.HeldLaws.{more_tied}
use Rattle.templates.proofs.templates.Templates.insert.Goals as goal

pub invariant_of-self-2 : goal.invariant_of-self-2
invariant_of-self-2 c = rw (c.insert.ensures, c.in_ok-reserve.ensures.ok) (more_tied c.self.view_is c.self.invariant c.args.row c.requires.free c.requires.valid c.requires.named)
