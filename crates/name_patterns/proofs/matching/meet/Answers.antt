use Rattle.std.proofs.Common.{◌≡◌, ◌==◌, chars, false, rules, sym, ◌∙◌, subst, arith}
use Rattle.std.proofs.lemmas.Bool.Decides.{nat_tests}
use Rattle.name_patterns.specs.Met.{IsPassed}
use Rattle.name_patterns.proofs.StarLaws.{one_passed}
use Rattle.name_patterns.proofs.TailLaws.{second}
use Rattle.name_patterns.proofs.matching.meet.Goals as goal

pub loop-after-preserved : goal.loop-after-preserved
loop-after-preserved g c =
    let both = c.in-Some-Some in
    let no_star : (both.wanted == 42) ≡ false = grind (arith, nat_tests, both.wanted-test) in
    let after = chars both.after.now in
    record {
      pattern_text = both.ensures.is_text;
      passed =
          subst (λ n. IsPassed (chars c.args.pattern.now) (g.N.Rest.characters c.args.name) after (g.N.Rest.characters n)) (search (rules, second))
          (one_passed _ _ _ _ both.wanted both.character after (g.N.Rest.characters both.rest) no_star (sym c.stands_for.ensures ∙ c.if-stands_for.true) both.ensures.characters both.ensures' c.loop-after.invariant.passed);
    }
