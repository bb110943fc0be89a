-- A number that may be there, compared with one.
use Rattle.std.proofs.Common.{◌≡◌, ℕ, ◌==◌, true, false, Option, Some, None, sym, ◌∙◌, ap, eqb}
use Rattle.std.specs.Option.{option_eq}
use Rattle.fsrm_base.proofs.TestLaws.{clash, eq_is, eq_same}

pub is_number : (o : Option ℕ) (n : ℕ) → option_eq eqb o (Some n) ≡ true → o ≡ Some n
is_number None n h = cc
is_number (Some m) n h = ap (λ j. Some j) (eq_is m n h)

pub no_number : (o : Option ℕ) (n : ℕ) → option_eq eqb o (Some n) ≡ false → o ≡ Some n → ⊥
no_number o n h e = clash (n == n) (eq_same n) (sym (ap (λ p. option_eq eqb p (Some n)) e) ∙ h)
