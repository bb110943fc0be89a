use Rattle.std.proofs.Common.{take}
use Rattle.std.specs.Prelude.{flat_map}
use Rattle.reply_text.specs.Lines.{group_text}
use Rattle.line_parts.proofs.Each.{Written}
use Rattle.reply_text.proofs.groups.write_groups.Given as goal

-- the lines up to a place are shown
abbrev pub invariant-loop-place : goal.invariant-loop-place
invariant-loop-place g l = Written g.S.Sink l.fn.sink l.sink (flat_map group_text (take l.place l.engine.rows.groups))
