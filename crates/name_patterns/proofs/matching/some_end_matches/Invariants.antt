use Rattle.std.proofs.Common.{◌≡◌, ◌+◌, chars, length}
use denote.Text.{Utf8}
use denote.Shadow.{shadow}
use Rattle.fsrm_model.specs.values.Patterns.{some_end}
use Rattle.name_patterns.specs.Folded.{matches_folded}
use Rattle.name_patterns.proofs.matching.some_end_matches.Given as goal

abbrev pub invariant-loop-starred : goal.invariant-loop-starred
invariant-loop-starred g l = record {
  starred_text : shadow (Utf8 l.starred);
  left : some_end (matches_folded (chars l.fn.pattern)) (g.N.Rest.characters l.fn.name) ≡ some_end (matches_folded (chars l.starred)) (g.N.Rest.characters l.end);
}

abbrev pub decreases-loop-starred : goal.decreases-loop-starred
decreases-loop-starred g l = length (g.N.Rest.characters l.end) + length (chars l.starred)
