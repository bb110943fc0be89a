use Rattle.std.proofs.Common.{◌∙◌, ap, sym}
use Rattle.std.specs.List.{list_any}
use Rattle.fsrm_model.specs.lines.Words.{is_quote}
use Rattle.tool_commands.proofs.QuoteCounts.{no_quote_found}
use Rattle.tool_commands.proofs.reading.unclosed_quote.Goals as goal

pub returns-clause-column : goal.returns-clause-column
returns-clause-column c =
    no_quote_found c.args.line.now (ap (list_any is_quote) (sym c.as_bytes-bytes.ensures.value) ∙ sym c.has_quote.ensures ∙ c.if-has_quote.false)
