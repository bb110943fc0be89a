use Rattle.std.proofs.Common.{take}
use Rattle.std.specs.Prelude.{flat_map}
use Rattle.reply_text.specs.Lines.{threshold_text}
use Rattle.line_parts.proofs.Each.{Written}
use Rattle.reply_text.proofs.actions.write_thresholds.Given as goal

-- the lines up to a place are shown
abbrev pub invariant-loop-threshold : goal.invariant-loop-threshold
invariant-loop-threshold g l = Written g.S.Sink l.fn.sink l.sink (flat_map threshold_text (take l.threshold-index l.thresholds))
