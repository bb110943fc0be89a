use Rattle.std.proofs.Common.{chars, length}
use denote.Text.{Utf8}
use denote.Shadow.{shadow}
use Rattle.name_patterns.specs.Met.{IsPassed}
use Rattle.name_patterns.proofs.matching.meet.Given as goal

abbrev pub invariant-loop-after : goal.invariant-loop-after
invariant-loop-after g l = record {
  pattern_text : shadow (Utf8 l.pattern);
  passed : IsPassed (chars l.fn.pattern) (g.N.Rest.characters l.fn.name) (chars l.pattern) (g.N.Rest.characters l.name);
}

abbrev pub decreases-loop-after : goal.decreases-loop-after
decreases-loop-after g l = length (chars l.pattern)
