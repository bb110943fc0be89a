-- Digits that are parsed.
use Rattle.std.proofs.Common.{◌≡◌, ℕ, ◌&&◌, ◌<◌, ◌≤◌, ◌^◌, List, Bool, true, false, refl, length, nat_lt, nat_le, arith, rules, subst}
use Rattle.std.specs.Prelude.{Result, Err}
use Rattle.std.specs.Char.{is_ascii_digit}
use Rattle.std.specs.List.{list_all}
use Rattle.std.specs.Str.Parse.{digits_value, ParsesUnsigned}
use Rattle.std.proofs.lemmas.Bool.Decides.{nat_tests}
use Rattle.std.proofs.lemmas.Str.Parse.{IsNumeralModel, numerals_by_value, parse_digits}
use Rattle.fsrm_model.specs.lines.Reading.{is_number}

-- digits have the value of a numeral
own : IsNumeralModel (λ ds. list_all is_ascii_digit ds ≡ true) (digits_value 10)
own = numerals_by_value _ (search rules)

both : (a b : Bool) → (a && b) ≡ true → (a ≡ true) × (b ≡ true)
both true b e = (refl, e)
both false b e = grind arith

some_length : (n : ℕ) → (nat_lt 0 n && nat_le n 20) ≡ true → 0 < n
some_length n e = grind (arith, nat_tests)

-- a number whose digits aren't parsed doesn't fit
pub too_large : {E : Type 0} (text : List ℕ) (r : Result ℕ E) (e : E) → ParsesUnsigned 64 10 text r → r ≡ Err e → is_number text ≡ true → 2 ^ 64 ≤ digits_value 10 text
too_large {E} text r e h is number =
    let parts = both _ _ number in
    let large = parse_digits own {E = E} 64 text (Err e) (subst (ParsesUnsigned {E = E} 64 10 text) is h) parts.1 in
    at (digits_value 10 text) (λ less. large (some_length (length text) parts.0, less))
  where
    at : (n : ℕ) → (n < 2 ^ 64 → ⊥) → 2 ^ 64 ≤ n
    at n not = omega arith
