use Rattle.std.proofs.Common.{sym}
use Rattle.fsrm_parts.proofs.tables.AbsentLaws.{screen_there, screen_absent}
use Rattle.fsrm_parts.proofs.removals.drop_screen.Goals as goal

pub drop_screen-requires : goal.drop_screen-requires
drop_screen-requires c = screen_there c.args.objects.now.screens c.args.folder c.screen.result c.screen.ensures (sym c.if-is_some.ensures)

pub returns-else-is_some : goal.returns-else-is_some
returns-else-is_some c = screen_absent c.args.objects.now c.args.folder c.screen.result c.screen.ensures (sym c.if-is_some.ensures)
