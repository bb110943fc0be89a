use Rattle.std.proofs.Common.{rules}
use Rattle.fsrm_outside.proofs.memory.show.Goals as goal

-- what was kept is the copy
pub returns-clause-done : goal.returns-clause-done
returns-clause-done c = ((c.in-Ok.copy, c.in-Ok.ensures.items, search rules), search rules)
