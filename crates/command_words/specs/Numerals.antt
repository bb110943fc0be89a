-- Digits that are read into 64 bits.
use Rattle.std.specs.Prelude.{◌≡◌, ℕ, ◌≤◌, true, false, List, length, take, Option, MatchOption, min}
use Rattle.std.specs.Char.{is_ascii_digit}
use Rattle.std.specs.List.{list_all}
use Rattle.std.specs.Str.Parse.{digits_value}
use Rattle.fsrm_model.specs.lines.Reading.{is_number}

-- the greatest number of 64 bits, for which all greater ones stand
abbrev pub greatest_number : ℕ
greatest_number = 18446744073709551615

-- the number of a text of digits alone
abbrev pub ReadsDigits : Option ℕ → List ℕ → Type 0
ReadsDigits result text = MatchOption result (list_all is_ascii_digit text ≡ false)
    (λ n. (list_all is_ascii_digit text ≡ true) × (n ≡ min (digits_value 10 text) greatest_number))

-- the number of a text of 1 to 20 digits
abbrev pub ReadsNumber : Option ℕ → List ℕ → Type 0
ReadsNumber result text = MatchOption result (is_number text ≡ false)
    (λ n. (is_number text ≡ true) × (n ≡ min (digits_value 10 text) greatest_number))

-- a text begins with so many digits, and they write a number
pub record BeginsWithDigits (text : List ℕ) (count number : ℕ) : Type 0 where
  pub within : count ≤ length text
  pub short : count ≤ 19
  pub digits : list_all is_ascii_digit (take count text) ≡ true
  pub value : number ≡ digits_value 10 (take count text)
