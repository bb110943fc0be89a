use Rattle.std.proofs.Common.{ℕ, List, ◌++◌, ◌∷◌, [], ◌∙◌, take, subst, arith}
use Rattle.std.proofs.lemmas.List.{take_all}
use Rattle.name_patterns.specs.Ends.{Cover}
use Rattle.name_patterns.specs.Folded.{pattern_matches_folded, some_matches}
use Rattle.name_patterns.proofs.EndLaws.{some_more}
use Rattle.name_patterns.proofs.ends.Ends.of.Goals as goal

pub loop-pattern-preserved : goal.loop-pattern-preserved
loop-pattern-preserved c = λ cs character is.
    let l = c.loop-pattern in
    let name = cs ++ character ∷ [] in
    c.or-ends.ensures (some_matches (take l.pattern-index c.as_slice-pattern-items.result.now)) (λ name. pattern_matches_folded name c.as_str.result.now) l.invariant c.of_pattern.ensures cs character
    (some_more (pattern_matches_folded name) c.as_slice-pattern-items.result.now l.pattern-index c.as_str.result.now c.loop-pattern-test.true (rw c.as_str.ensures c.pattern-item.is) is)

pub returns : goal.returns
returns c =
    let l = c.loop-pattern in
    let all = take_all l.pattern-index c.as_slice-pattern-items.result.now (omega (arith, c.loop-pattern-test.false)) ∙ c.as_slice-pattern-items.ensures in
    subst (λ (patterns : List (List ℕ)). Cover l.ends (some_matches patterns)) all l.invariant
