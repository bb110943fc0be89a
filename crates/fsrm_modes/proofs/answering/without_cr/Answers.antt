use Rattle.std.proofs.Common.{◌∙◌}
use Rattle.fsrm_modes.proofs.Endings.{cr_ends, no_cr_ends}
use Rattle.fsrm_modes.proofs.answering.without_cr.Goals as goal

pub returns-in-Some : goal.returns-in-Some
returns-in-Some c = c.in-Some.ensures.cases.1 ∙ cr_ends c.args.line.now c.in-Some.ensures.cases.0

pub returns-in-None : goal.returns-in-None
returns-in-None c = no_cr_ends c.args.line.now c.in-None.ensures.cases
