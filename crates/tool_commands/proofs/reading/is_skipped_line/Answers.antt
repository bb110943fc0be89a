use Rattle.std.proofs.Common.{◌∙◌, sym}
use Rattle.fsrm_model.proofs.lines.ScriptLaws.{too_long}
use Rattle.tool_commands.proofs.Lines.{not_skipped, skipped_exactly, utf8_exactly}
use Rattle.tool_commands.proofs.reading.is_skipped_line.Goals as goal

pub returns-then-line-gt-LONGEST_LINE : goal.returns-then-line-gt-LONGEST_LINE
returns-then-line-gt-LONGEST_LINE c =
    let refused = too_long c.args.line.now c.if-line-gt-LONGEST_LINE.true in
    (λ h. absurd (cc h), λ none. absurd (cc (refused, none)))

pub returns-then-is_skipped : goal.returns-then-is_skipped
returns-then-is_skipped c =
    skipped_exactly c.args.line.now c.is_ok.result c.if-line-gt-LONGEST_LINE.false (sym c.is_skipped.ensures ∙ c.if-is_skipped.true) (utf8_exactly c.args.line.now c.from_utf8.result _ _ c.is_ok.result c.is_ok.ensures.value c.from_utf8.ensures.cases)

pub returns-else-is_skipped : goal.returns-else-is_skipped
returns-else-is_skipped c =
    let never = not_skipped c.args.line.now c.if-line-gt-LONGEST_LINE.false (sym c.is_skipped.ensures ∙ c.if-is_skipped.false) in
    (λ h. absurd (cc (h, c.if-is_skipped.false)), λ none. absurd (never none))
