use Rattle.std.proofs.Common.{sym, subst}
use Rattle.report_schedule.specs.Occasions.{HasNone}
use Rattle.report_schedule.proofs.NextLaws.{never_comes}
use Rattle.report_schedule.proofs.occasions.next_after.Goals as goal

pub returns-in-Never : goal.returns-in-Never
returns-in-Never c = record { some = tt; none = subst (λ s. HasNone s c.args.made c.args.base) (sym c.in-Never.is) (never_comes c.args.made c.args.base) }
