use Rattle.fsrm_parts.specs.Tasks.{With}
use Rattle.fsrm_parts.proofs.sums.put_end.Goals as goal

pub returns-in_ok-push : goal.returns-in_ok-push
returns-in_ok-push c = With c.in-Some.place c.in-Some.ensures.place c.in_ok-push.ensures.items
