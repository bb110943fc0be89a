use Rattle.std.proofs.Common.{take}
use Rattle.std.specs.Prelude.{flat_map}
use Rattle.reply_text.specs.Lines.{named_text}
use Rattle.line_parts.proofs.Each.{Written}
use Rattle.reply_text.proofs.groups.write_names.Given as goal

-- the lines up to a place are shown
abbrev pub invariant-loop-number : goal.invariant-loop-number
invariant-loop-number g l = Written g.S.Sink l.fn.sink l.sink (flat_map (named_text l.groups) (take l.number-index l.numbers))
