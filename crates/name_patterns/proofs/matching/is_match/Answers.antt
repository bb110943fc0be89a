use Rattle.std.proofs.Common.{◌≡◌, false, true, chars, rules, sym, ◌∙◌, subst}
use Rattle.name_patterns.specs.Folded.{matches_folded}
use Rattle.name_patterns.proofs.TailLaws.{last_passed, last_unmet, second}
use Rattle.name_patterns.proofs.matching.is_match.Goals as goal

pub returns-in_default-last_folded : goal.returns-in_default-last_folded
returns-in_default-last_folded g c =
    let l = c.loop-wanted in
    sym
    (l.invariant.left
    ∙ last_unmet c.in-Some.wanted c.if-wanted-eq42.false (chars l.pattern.now) (chars c.in-Some.before.now) (g.N.Rest.characters l.name) c.in-Some.ensures.characters c.in_default-last_folded.ensures)

pub returns-then-not-stands_for : goal.returns-then-not-stands_for
returns-then-not-stands_for g c =
    let l = c.loop-wanted in
    let last = c.in-Some-last_folded in
    sym
    (l.invariant.left
    ∙ last_passed c.in-Some.wanted c.if-wanted-eq42.false (chars l.pattern.now) (chars c.in-Some.before.now) (g.N.Rest.characters l.name) c.in-Some.ensures.characters last.character (g.N.Rest.characters last.rest) false last.ensures (sym c.stands_for.ensures ∙ c.if-not-stands_for.true))

pub loop-wanted-preserved : goal.loop-wanted-preserved
loop-wanted-preserved g c =
    let l = c.loop-wanted in
    let before = chars c.in-Some.before.now in
    let last = c.in-Some-last_folded in
    record {
      pattern_text = c.in-Some.ensures.is_text;
      left =
          subst (λ n. matches_folded (chars c.args.pattern.now) (g.N.Rest.characters c.args.name) ≡ matches_folded before (g.N.Rest.characters n)) (search (rules, second))
          (l.invariant.left
          ∙ last_passed c.in-Some.wanted c.if-wanted-eq42.false (chars l.pattern.now) before (g.N.Rest.characters l.name) c.in-Some.ensures.characters last.character (g.N.Rest.characters last.rest) true last.ensures (sym c.stands_for.ensures ∙ c.if-not-stands_for.false));
    }
