use Rattle.std.proofs.Common.{sym}
use Rattle.file_screens.proofs.NameLaws.{name_short}
use Rattle.file_screens.proofs.screening.climb_with.Goals as goal

pub of-name-requires : goal.of-name-requires
of-name-requires g c = name_short c.args.name.now c.requires.named

pub returns-clause-judged : goal.returns-clause-judged
returns-clause-judged g c = c.climb.ensures.judged c.args.name.now (sym c.of-name.ensures)
