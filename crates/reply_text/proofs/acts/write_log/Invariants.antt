use Rattle.std.proofs.Common.{take}
use Rattle.std.specs.Prelude.{flat_map}
use Rattle.reply_text.specs.Lines.{entry_text}
use Rattle.line_parts.proofs.Each.{Written}
use Rattle.reply_text.proofs.acts.write_log.Given as goal

-- the lines up to a place are shown
abbrev pub invariant-loop-place : goal.invariant-loop-place
invariant-loop-place g l = Written g.S.Sink l.fn.sink l.sink (flat_map entry_text (take l.place l.marks.log))
