use Rattle.std.proofs.Common.{take}
use Rattle.std.specs.Prelude.{flat_map}
use Rattle.reply_text.specs.Lines.{do_text}
use Rattle.line_parts.proofs.Each.{Written}
use Rattle.reply_text.proofs.actions.write_dos.Given as goal

-- the lines up to a place are shown
abbrev pub invariant-loop-action : goal.invariant-loop-action
invariant-loop-action g l = Written g.S.Sink l.fn.sink l.sink (flat_map do_text (take l.action-index l.actions))
