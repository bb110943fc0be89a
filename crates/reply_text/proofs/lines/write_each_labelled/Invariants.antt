use Rattle.std.proofs.Common.{take}
use Rattle.std.specs.Prelude.{flat_map}
use Rattle.reply_text.specs.Lines.{labelled_text}
use Rattle.line_parts.proofs.Each.{Written}
use Rattle.reply_text.proofs.lines.write_each_labelled.Given as goal

-- the lines up to a place are shown
abbrev pub invariant-loop-text : goal.invariant-loop-text
invariant-loop-text g l = Written g.S.Sink l.fn.sink l.sink (flat_map (labelled_text l.label) (take l.text-index l.texts))
