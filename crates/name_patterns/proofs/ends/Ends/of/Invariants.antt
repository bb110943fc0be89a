use Rattle.std.proofs.Common.{take}
use Rattle.name_patterns.specs.Ends.{Cover}
use Rattle.name_patterns.specs.Folded.{some_matches}
use Rattle.name_patterns.proofs.ends.Ends.of.Given as goal

abbrev pub invariant-loop-pattern : goal.invariant-loop-pattern
invariant-loop-pattern l = Cover l.ends (some_matches (take l.pattern-index l.pattern-items))
