-- The bits of a row's size.
use Rattle.std.proofs.Common.{◌≡◌, ℕ, zero, suc, ◌*◌, ◌^◌, ◌<◌, ◌==◌, not, ◌∙◌, ap, arith}
use Rattle.std.proofs.lemmas.Bool.Decides.{nat_tests}
use Rattle.std.proofs.lemmas.Nat.{pow_pos}
use Rattle.std.proofs.lemmas.Nat.Bits.{and_pow, bit_at-lt}
use Rattle.std.specs.Int.{bit_at}
use Rattle.std.specs.Prelude.{bit_and}

tested : (b p : ℕ) → b < 2 → 0 < p → not (b * p == 0) ≡ (b == 1)
tested zero p l h = let none : zero * p ≡ 0 = omega arith in ap (λ n. not (n == 0)) none
tested (suc zero) p l h = let all : suc zero * p ≡ p = omega arith in ap (λ n. not (n == 0)) all ∙ grind (arith, nat_tests)
tested (suc (suc b)) p l h = absurd (omega arith)

-- whether a bit is set
pub is_set : (n k : ℕ) → not (bit_and n (2 ^ k) == 0) ≡ (bit_at n k == 1)
is_set n k = ap (λ m. not (m == 0)) (and_pow n k) ∙ tested (bit_at n k) (2 ^ k) (bit_at-lt n k) (pow_pos k)
