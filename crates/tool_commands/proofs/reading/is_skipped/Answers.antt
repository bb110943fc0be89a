use Rattle.std.proofs.Common.{sym, ◌∙◌}
use Rattle.std.proofs.lemmas.Bool.{eq-eqb}
use Rattle.tool_commands.proofs.Lines.{skipped_all, skipped_at, blanks_within}
use Rattle.tool_commands.proofs.reading.is_skipped.Goals as goal

pub bounds-line-place : goal.bounds-line-place
bounds-line-place c = blanks_within c.args.line.now c.blanks-place.result c.blanks-place.ensures c.if-place-line.false

pub returns-then-place-line : goal.returns-then-place-line
returns-then-place-line c = eq-eqb _ _ c.if-place-line.true ∙ sym (skipped_all c.args.line.now c.blanks-place.result c.blanks-place.ensures c.if-place-line.true)

pub returns-else-place-line : goal.returns-else-place-line
returns-else-place-line c =
    sym (skipped_at c.args.line.now c.blanks-place.result c.blanks-place.ensures (blanks_within c.args.line.now c.blanks-place.result c.blanks-place.ensures c.if-place-line.false))
