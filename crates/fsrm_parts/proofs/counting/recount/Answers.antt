use Rattle.std.proofs.Common.{true, false}
use Rattle.fsrm_base.proofs.TestLaws.{clash}
use Rattle.fsrm_parts.proofs.tables.SumLaws.{counter_found}
use Rattle.fsrm_parts.proofs.counting.recount.Goals as goal

pub begin-requires-clause-free : goal.begin-requires-clause-free
begin-requires-clause-free c = counter_found c.args.usage.now c.args.folder c.used.result false c.used.ensures c.if-is_none.ensures

pub begin-requires-clause-room : goal.begin-requires-clause-room
begin-requires-clause-room c = c.requires.room c.if-not-counting.false (begin-requires-clause-free c)

pub returns-then-is_none-clause-held : goal.returns-then-is_none-clause-held
returns-then-is_none-clause-held c t there = absurd (clash _ there (counter_found c.args.usage.now c.args.folder c.used.result false c.used.ensures c.if-is_none.ensures))

pub returns-else-is_none-clause-begun : goal.returns-else-is_none-clause-begun
returns-else-is_none-clause-begun c t free = absurd (clash _ (counter_found c.args.usage.now c.args.folder c.used.result true c.used.ensures c.if-is_none.ensures) free)
