use Rattle.templates.proofs.HeldLaws.{auto_more}
use Rattle.templates.proofs.templates.Templates.insert_auto.Goals as goal

pub invariant_of-self-2 : goal.invariant_of-self-2
invariant_of-self-2 c = rw (c.insert.ensures, c.in_ok-reserve.ensures.ok) (auto_more c.self.view_is c.self.invariant c.args.row c.requires.there c.requires.valid)
