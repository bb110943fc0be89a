use Rattle.std.proofs.Common.{◌≡◌, ℕ, ◌+◌, ◌/◌, ◌%◌, ◌≤◌, ◌<◌, List, [], ◌∷◌, ◌++◌, sym, ap, ◌∙◌, arith}
use Rattle.std.specs.Prelude.{decimal}
use Rattle.std.proofs.lemmas.Fmt.{decimal_digit, decimal_step}
use Rattle.made_script.proofs.Spelled.{as_spelled}
use Rattle.made_script.proofs.writing.put_number.Goals as goal

two_digits : (n : ℕ) → 10 ≤ n → n < 100 → (48 + n / 10) ∷ (48 + n % 10) ∷ [] ≡ decimal n
two_digits n many few = sym (decimal_step n many (omega arith) ∙ ap (λ (l : List ℕ). l ++ ((48 + n % 10) ∷ [])) (decimal_digit (n / 10) (omega arith)))

pub returns-then-number-lt10 : goal.returns-then-number-lt10
returns-then-number-lt10 c = as_spelled c.put_text.result _ _ _ _ (sym (decimal_digit c.args.number c.if-number-lt10.true)) c.put_text.ensures

pub returns-then-number-lt100 : goal.returns-then-number-lt100
returns-then-number-lt100 c = as_spelled c.put_text-then-number-lt100.result _ _ _ _ (two_digits c.args.number (omega arith) (omega arith)) c.put_text-then-number-lt100.ensures
