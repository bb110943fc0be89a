use Rattle.std.proofs.Common.{sym}
use Rattle.report_schedule.proofs.DueLaws.{due_by_next, never_due}
use Rattle.report_schedule.proofs.due.is_due.Goals as goal

pub returns-in-Some : goal.returns-in-Some
returns-in-Some c = due_by_next c.args.schedule.now c.args.made c.args.base c.args.moment c.in-Some.next c.in-Some.ensures.some

pub returns-in-None : goal.returns-in-None
returns-in-None c = sym (never_due c.args.schedule.now c.args.made c.args.base c.args.moment c.in-None.ensures.none)
