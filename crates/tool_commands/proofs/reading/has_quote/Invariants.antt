use Rattle.std.proofs.Common.{◌≡◌, take}
use Rattle.std.specs.List.{list_any}
use Rattle.fsrm_model.specs.lines.Words.{is_quote}
use Rattle.tool_commands.proofs.reading.has_quote.Given as goal

abbrev pub invariant-loop-byte : goal.invariant-loop-byte
invariant-loop-byte l = l.found ≡ list_any is_quote (take l.byte-index l.line)
