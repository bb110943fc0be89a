use Rattle.std.proofs.Common.{take}
use Rattle.std.specs.Prelude.{flat_map}
use Rattle.line_parts.specs.Parts.{part_text}
use Rattle.line_parts.proofs.Each.{Written}
use Rattle.line_parts.proofs.sending.send.Given as goal

-- the parts up to a place are shown
abbrev pub invariant-parts : goal.invariant-parts
invariant-parts g l = Written g.S.Sink l.fn.sink l.sink (flat_map part_text (take l.part-index l.parts))
