use Rattle.std.proofs.Common.{◌≡◌, ◌<◌, true, length, get_or, arith, sym, ◌∙◌}
use Rattle.std.specs.Char.{is_ascii_digit}
use Rattle.command_words.proofs.Numbers.{few_fit, digit_added, digits_more, digit_from}
use Rattle.command_words.proofs.values.leading_digits.Goals as goal

pub overflow_mul-number : goal.overflow_mul-number
overflow_mul-number c =
    let kept = c.loop-count.invariant in
    omega (arith, few_fit c.args.text.now c.loop-count.count kept.within (omega arith) kept.digits, kept.value)

pub overflow_add-number : goal.overflow_add-number
overflow_add-number c =
    let kept = c.loop-count.invariant in
    let text = c.args.text.now in
    let i = c.loop-count.count in
    let digit : is_ascii_digit (get_or text i 0) ≡ true = sym c.is_ascii_digit.ensures.value ∙ c.if-is_ascii_digit.true in
    omega (arith, few_fit text i kept.within (omega arith) kept.digits, kept.value, digit_from (get_or text i 0) digit)

pub loop-count-preserved : goal.loop-count-preserved
loop-count-preserved c =
    let text = c.args.text.now in
    let i = c.loop-count.count in
    let kept = c.loop-count.invariant in
    let within : i < length text = omega arith in
    let digit : is_ascii_digit (get_or text i 0) ≡ true = sym c.is_ascii_digit.ensures.value ∙ c.if-is_ascii_digit.true in
    record {
      within = omega arith;
      short = omega arith;
      digits = digits_more text i within digit kept.digits;
      value = digit_added text i c.loop-count.number within digit kept.value;
    }
