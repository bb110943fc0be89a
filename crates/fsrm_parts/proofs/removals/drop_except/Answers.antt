use Rattle.std.proofs.Common.{sym}
use Rattle.fsrm_parts.proofs.tables.AbsentLaws.{except_there, except_absent}
use Rattle.fsrm_parts.proofs.removals.drop_except.Goals as goal

pub drop_except-requires : goal.drop_except-requires
drop_except-requires c = except_there c.args.objects.now.excepts c.args.folder c.except.result c.except.ensures (sym c.if-is_some.ensures)

pub returns-else-is_some : goal.returns-else-is_some
returns-else-is_some c = except_absent c.args.objects.now c.args.folder c.except.result c.except.ensures (sym c.if-is_some.ensures)
