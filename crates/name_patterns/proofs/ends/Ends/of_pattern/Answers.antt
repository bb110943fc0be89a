use Rattle.std.proofs.Common.{◌≡◌, ◌*◌, ◌%◌, ◌^◌, ℕ, true, chars, sym, ◌∙◌, ap, subst, arith}
use Rattle.std.proofs.lemmas.Nat.Bits.{bit_at_ones}
use Rattle.fsrm_base.proofs.TestLaws.{eq_test}
use Rattle.fsrm_model.specs.values.Patterns.{meant}
use Rattle.name_patterns.specs.Ends.{is_end}
use Rattle.name_patterns.proofs.EndLaws.{last_is, one_end}
use Rattle.name_patterns.proofs.ends.Ends.of_pattern.Goals as goal

pub returns-then-wanted-eq42 : goal.returns-then-wanted-eq42
returns-then-wanted-eq42 c = λ cs character is. eq_test _ 1 (bit_at_ones 128 (character % 128) (omega arith))

pub returns : goal.returns
returns c = λ cs character is.
    let ends = sym (ap chars c.meant.ensures) ∙ c.in-Some.ensures.characters in
    subst (λ (n : ℕ). is_end (record { bits = 1 * 2 ^ (c.fold.result % 128) % 2 ^ 128 }) n ≡ true)
    (c.fold.ensures ∙ last_is c.in-Some.wanted character (chars (meant c.args.pattern.now)) (chars c.in-Some._before.now) cs c.if-wanted-eq42.false c.if-wanted-eq63.false ends is)
    (one_end c.fold.result)
