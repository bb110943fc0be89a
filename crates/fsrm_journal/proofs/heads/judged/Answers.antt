use Rattle.std.proofs.Common.{sym, ◌∙◌}
use Rattle.fsrm_journal.proofs.HeadLaws.{open_long}
use Rattle.fsrm_journal.proofs.heads.judged.Goals as goal

pub ruling-requires-clause-zero : goal.ruling-requires-clause-zero
ruling-requires-clause-zero c = λ is. open_long c.args.zero.now (sym c.half_fault.ensures ∙ c.in_default.is) is

pub ruling-requires-clause-one : goal.ruling-requires-clause-one
ruling-requires-clause-one c = λ is. open_long c.args.one.now (sym c.half_fault-2.ensures ∙ c.in_default-half_fault.is) is
