use Rattle.std.proofs.Common.{◌==◌, ◌%◌, sym, ap, ◌∙◌, arith}
use Rattle.std.proofs.lemmas.Nat.Bits.{shr_and_one, bit_at-zero}
use Rattle.std.specs.Int.{bit_at}
use Rattle.number_set.specs.Words.{has_bit}
use Rattle.number_set.proofs.words.has_bit.Goals as goal

pub returns-in-Some : goal.returns-in-Some
unfolding has_bit
returns-in-Some c =
    let bit = c.args.number % 64 in
    ap (λ n. n == 1) (shr_and_one c.in-Some.word.now bit ∙ ap (λ w. bit_at w bit) (c.in-Some.ensures.lookup.3.1 0))

pub returns-in-None : goal.returns-in-None
unfolding has_bit
returns-in-None c =
    let bit = c.args.number % 64 in
    sym (ap (λ w. bit_at w bit == 1) (sym (c.in-None.ensures.lookup.4 (omega arith) 0)) ∙ ap (λ b. b == 1) (bit_at-zero bit))
