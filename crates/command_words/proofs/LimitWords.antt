-- So many of a unit, as a limit.
use Rattle.std.proofs.Common.{◌≡◌, ℕ, ◌+◌, ◌*◌, ◌<◌, ◌≤◌, ◌^◌, List, [], ◌∷◌, Bool, true, false, cond, length, take, refl, ap, ◌∙◌, arith, rules, subst, suc}
use Rattle.std.specs.Prelude.{Result, Ok, Err}
use Rattle.std.specs.Char.{is_ascii_digit}
use Rattle.std.specs.List.{list_all, prefix_len}
use Rattle.std.specs.Result.{OkIff}
use Rattle.std.specs.Str.{IsUtf8, IsCharBoundary}
use Rattle.std.specs.Str.Parse.{digits_value, ParsesUnsigned}
use Rattle.std.proofs.lemmas.Bool.Decides.{nat_tests}
use Rattle.std.proofs.Math.Nat.{mul-le-mul_left}
use Rattle.std.proofs.lemmas.Str.Parse.{IsNumeralModel, numerals_by_value, parse_digits}
use Rattle.fsrm_model.specs.declared.command.Refusal.TheVariants.{InvalidLimit}
use Rattle.fsrm_model.specs.objects.Quota.{is_limit}
use Rattle.fsrm_model.specs.lines.Reading.{guarded}
use Rattle.command_words.proofs.Fronts.{front_end}

-- digits have the value of a numeral
pub own : IsNumeralModel (λ ds. list_all is_ascii_digit ds ≡ true) (digits_value 10)
own = numerals_by_value _ (search rules)

-- digits that are parsed, or are too many for it
pub parsed : {E : Type 0} (text : List ℕ) (r s : Result ℕ E) → ParsesUnsigned 64 10 text r → r ≡ s → list_all is_ascii_digit text ≡ true → OkIff s ((0 < length text) × (digits_value 10 text < 2 ^ 64)) (digits_value 10 text)
parsed {E} text r s h is digits = parse_digits own {E = E} 64 text s (subst (ParsesUnsigned {E = E} 64 10 text) is h) digits

more_of : (n unit bound : ℕ) → bound ≤ n → 1 ≤ unit → bound ≤ n * unit
more_of n unit bound many some = omega (arith, mul-le-mul_left {m = 1} {n = unit} n some)

pub too_many : {E : Type 0} (text : List ℕ) (r : Result ℕ E) (e : E) (unit : ℕ) → ParsesUnsigned 64 10 text r → r ≡ Err e → list_all is_ascii_digit text ≡ true → 0 < length text → 1 ≤ unit → 2 ^ 64 ≤ digits_value 10 text * unit
too_many {E} text r e unit h is digits some_digits some =
    let large = parsed {E = E} text r (Err e) h is digits in
    more_of (digits_value 10 text) unit (2 ^ 64) (at (digits_value 10 text) (λ less. large (some_digits, less))) some
  where
    at : (n : ℕ) → (n < 2 ^ 64 → ⊥) → 2 ^ 64 ≤ n
    at n not = omega arith

-- more than fits is no limit
too_large : (product : ℕ) → 2 ^ 64 ≤ product → is_limit product ≡ false
too_large product large = grind (arith, nat_tests)

pub limit_read : (product limit : ℕ) → limit ≡ product → is_limit limit ≡ true → guarded (is_limit product) InvalidLimit product ≡ Ok limit
limit_read product limit is within = rw (← is, within) refl

pub limit_refused : (product limit : ℕ) → limit ≡ product → is_limit limit ≡ false → guarded (is_limit product) InvalidLimit product ≡ Err InvalidLimit
limit_refused product limit is without = rw (← is, without) refl

pub large_refused : (product : ℕ) → 2 ^ 64 ≤ product → guarded (is_limit product) InvalidLimit product ≡ Err InvalidLimit
large_refused product large = limit_refused product product refl (too_large product large)

-- the digits that a text begins with are digits
digits_all : (text : List ℕ) → list_all is_ascii_digit (take (prefix_len is_ascii_digit text) text) ≡ true
digits_all [] = refl
digits_all (b ∷ bs) = at (is_ascii_digit b) refl (digits_all bs)
  where
    at : (digit : Bool) → is_ascii_digit b ≡ digit → list_all is_ascii_digit (take (prefix_len is_ascii_digit bs) bs) ≡ true → list_all is_ascii_digit (take (cond digit (1 + prefix_len is_ascii_digit bs) 0) (b ∷ bs)) ≡ true
    at true e ih =
        let one : 1 + prefix_len is_ascii_digit bs ≡ suc (prefix_len is_ascii_digit bs) = omega arith in
        rw (one, e, ih) refl
    at false e ih = refl

pub digits_taken : (text bytes front : List ℕ) (n : ℕ) → bytes ≡ text → n ≡ prefix_len is_ascii_digit bytes → front ≡ take n text → list_all is_ascii_digit front ≡ true
digits_taken text bytes front n same n_is front_is =
    let n_of : n ≡ prefix_len is_ascii_digit text = n_is ∙ ap (prefix_len is_ascii_digit) same in
    rw (front_is, n_of) (digits_all text)

digit_is_ascii : (b : ℕ) → is_ascii_digit b ≡ true → b < 128
digit_is_ascii b h = grind (arith, nat_tests)

-- a text may be cut after its digits
pub digits_cut : (text bytes : List ℕ) (n : ℕ) → IsUtf8 text → bytes ≡ text → n ≡ prefix_len is_ascii_digit bytes → IsCharBoundary text n
digits_cut text bytes n utf8 same n_is = front_end is_ascii_digit digit_is_ascii text n utf8 (n_is ∙ ap (prefix_len is_ascii_digit) same)
