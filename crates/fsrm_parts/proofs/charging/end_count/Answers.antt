use Rattle.std.proofs.Common.{sym}
use Rattle.fsrm_parts.proofs.tables.AbsentLaws.{counter_there, counter_absent}
use Rattle.fsrm_parts.proofs.charging.end_count.Goals as goal

pub end-requires : goal.end-requires
end-requires c = counter_there c.args.usage.now c.args.folder c.used.result c.used.ensures (sym c.if-is_some.ensures)

pub returns-else-is_some : goal.returns-else-is_some
returns-else-is_some c = counter_absent c.args.usage.now c.args.folder c.used.result c.used.ensures (sym c.if-is_some.ensures)
