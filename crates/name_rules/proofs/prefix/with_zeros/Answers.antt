use Rattle.std.proofs.Common.{◌≡◌, ℕ, zero, suc, ◌+◌, ◌-◌, ◌*◌, ◌%◌, ◌^◌, ◌<◌, sym, ◌∙◌, ap, arith, pow-suc, refl}
use Rattle.std.proofs.Math.Nat.{mod-eq_of_lt, mul-lt-mul_of_pos_right}
use Rattle.std.proofs.lemmas.Nat.{pow-add}
use Rattle.name_rules.proofs.PrefixLaws.{some_digits}
use Rattle.name_rules.proofs.prefix.with_zeros.Goals as goal

-- eight bits are a digit
bits : (n : ℕ) → 2 ^ (8 * n) ≡ 256 ^ n
bits zero = refl
bits (suc n) =
    let more : 8 * suc n ≡ 8 * n + 8 = omega arith in
    ap (λ k. 2 ^ k) more ∙ (pow-add 2 (8 * n) 8 ∙ (ap (λ p. p * 256) (bits n) ∙ sym (pow-suc 256 n)))

-- a number of the other digits stays one of eight
all_fit : (number n : ℕ) → n < 8 → number < 256 ^ (8 - n) → number * 256 ^ n < 18446744073709551616
all_fit number n l small =
    let all : 8 - n + n ≡ 8 = omega arith in
    omega (arith, mul-lt-mul_of_pos_right small (some_digits n), sym (pow-add 256 (8 - n) n) ∙ ap (λ k. 256 ^ k) all)

pub returns : goal.returns
returns c =
    let number = c.args.number in
    let zeros = c.args.zeros in
    ap (λ p. number * p % 18446744073709551616) (bits zeros) ∙ mod-eq_of_lt (all_fit number zeros (omega (arith, c.requires.few, c.if-zeros-eq8.false)) c.requires.small)
