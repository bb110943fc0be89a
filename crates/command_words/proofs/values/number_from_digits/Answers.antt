use Rattle.std.proofs.Common.{◌≡◌, ◌+◌, ◌-◌, ◌<◌, true, false, length, get_or, take, min, ap, sym, ◌∙◌, arith}
use Rattle.std.specs.Char.{is_ascii_digit}
use Rattle.std.specs.List.{list_all}
use Rattle.std.specs.Str.Parse.{digits_value}
use Rattle.std.proofs.lemmas.List.{take_all}
use Rattle.command_words.specs.Numerals.{greatest_number}
use Rattle.command_words.proofs.Numbers.{digit_more, digits_more, no_digits}
use Rattle.command_words.proofs.values.number_from_digits.Goals as goal

pub returns-then-not-is_ascii_digit : goal.returns-then-not-is_ascii_digit
returns-then-not-is_ascii_digit c =
    let text = c.args.text.now in
    let i = c.loop-byte.byte-index in
    let within : i < length text = omega arith in
    let other : is_ascii_digit (get_or text i 0) ≡ false = sym c.is_ascii_digit.ensures.value ∙ c.if-not-is_ascii_digit.true in
    no_digits text i within other

pub loop-byte-preserved : goal.loop-byte-preserved
loop-byte-preserved c =
    let text = c.args.text.now in
    let i = c.loop-byte.byte-index in
    let kept = c.loop-byte.invariant in
    let within : i < length text = omega arith in
    let digit : is_ascii_digit (get_or text i 0) ≡ true = sym c.is_ascii_digit.ensures.value ∙ c.if-not-is_ascii_digit.false in
    record {
      digits = digits_more text i within digit kept.digits;
      value =
          c.saturating_add-number.ensures
          ∙ ap (λ product. min (product + (get_or text i 0 - 48)) greatest_number) c.saturating_mul.ensures
          ∙ digit_more greatest_number text i c.loop-byte.number within digit kept.value;
    }

pub returns : goal.returns
returns c =
    let text = c.args.text.now in
    let i = c.loop-byte.byte-index in
    let kept = c.loop-byte.invariant in
    let whole : take i text ≡ text = take_all i text (omega arith) in (
      ap (list_all is_ascii_digit) (sym whole) ∙ kept.digits,
      kept.value ∙ ap (λ digits. min (digits_value 10 digits) greatest_number) whole,
    )
