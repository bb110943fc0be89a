use Rattle.std.proofs.Common.{refl}
use Rattle.fsrm_modes.proofs.Cutting.{none_held, some_held}
use Rattle.fsrm_modes.proofs.lines.line_of.Goals as goal

pub returns-then-is_empty-clause-some : goal.returns-then-is_empty-clause-some
returns-then-is_empty-clause-some c = λ some. absurd (some (none_held _ c.args.held.now c.is_empty.result refl c.is_empty.ensures c.if-is_empty.true))

pub returns-else-is_empty-clause-none : goal.returns-else-is_empty-clause-none
returns-else-is_empty-clause-none c = λ none. absurd (some_held _ c.args.held.now c.is_empty.result refl c.is_empty.ensures c.if-is_empty.false none)
