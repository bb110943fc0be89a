use Rattle.std.proofs.Common.{◌≡◌, chars, length}
use denote.Text.{Utf8}
use denote.Shadow.{shadow}
use Rattle.name_patterns.specs.Folded.{matches_folded}
use Rattle.name_patterns.proofs.matching.is_match.Given as goal

abbrev pub invariant-loop-wanted : goal.invariant-loop-wanted
invariant-loop-wanted g l = record {
  pattern_text : shadow (Utf8 l.pattern);
  left : matches_folded (chars l.fn.pattern) (g.N.Rest.characters l.fn.name) ≡ matches_folded (chars l.pattern) (g.N.Rest.characters l.name);
}

abbrev pub decreases-loop-wanted : goal.decreases-loop-wanted
decreases-loop-wanted g l = length (chars l.pattern)
