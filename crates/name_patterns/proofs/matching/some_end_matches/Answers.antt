use Rattle.std.proofs.Common.{List, chars, ℕ, ◌∙◌, sym, ap}
use Rattle.fsrm_model.specs.values.Patterns.{some_end}
use Rattle.fsrm_base.proofs.TestLaws.{eq_is}
use Rattle.name_patterns.specs.Folded.{matches_folded}
use Rattle.name_patterns.proofs.StarLaws.{any_end, first_end, star_same}
use Rattle.name_patterns.proofs.TailLaws.{no_chars}
use Rattle.name_patterns.proofs.matching.some_end_matches.Goals as goal

pub loop-starred-preserved-in-Star : goal.loop-starred-preserved-in-Star
loop-starred-preserved-in-Star g c =
    let star = c.in-Star.ensures in
    record { starred_text = star.1; left = c.loop-starred.invariant.left ∙ star_same _ _ _ _ star.0 }

pub returns-in-Ended : goal.returns-in-Ended
returns-in-Ended g c = sym (c.loop-starred.invariant.left ∙ first_end (matches_folded (chars c.loop-starred.starred.now)) (g.N.Rest.characters c.loop-starred.end) c.in-Ended.ensures)

pub returns : goal.returns
returns g c =
    let l = c.loop-starred in
    let end = g.N.Rest.characters l.end in
    let empty = no_chars l.starred.now (eq_is _ _ (sym c.is_empty.ensures ∙ c.loop-starred-test.false)) in
    sym (l.invariant.left ∙ (ap (λ (ps : List ℕ). some_end (matches_folded ps) end) empty ∙ any_end end))
