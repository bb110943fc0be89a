use Rattle.std.proofs.Common.{◌≡◌, ℕ, suc, ◌+◌, ◌-◌, ◌*◌, ◌^◌, ◌<◌, ◌≤◌, ◌∙◌, List, drop, get_or, min, nat_lt, sym, ap, subst, arith}
use Rattle.std.specs.Prelude.{if◌then◌else◌}
use Rattle.std.specs.Str.Iter.{chars_rest}
use Rattle.fsrm_model.specs.values.Name.{folded}
use Rattle.name_rules.specs.Prefix.{number_of}
use Rattle.name_rules.proofs.PrefixLaws.{carried, carried_small, digits_fit, next_digit, next_small, to_come}
use Rattle.name_rules.proofs.prefix.prefix_of_characters.Goals as goal

pub overflow_mul-number : goal.overflow_mul-number
overflow_mul-number c =
    let small = digits_fit c.loop-left.number (8 - c.loop-left.left) c.loop-left.invariant.small (omega arith) in
    omega (arith, small)

pub overflow_add-number : goal.overflow_add-number
overflow_add-number c =
    let small = digits_fit c.loop-left.number (8 - c.loop-left.left) c.loop-left.invariant.small (omega arith) in
    let digit = next_small c.loop-left.digit c.next_folded.result c.loop-left.invariant.digit in
    omega (arith, small, digit, c.digit_after-digit.ensures)

pub loop-left-preserved : goal.loop-left-preserved
loop-left-preserved c =
    let name = c.args.name.now in
    let number = c.loop-left.number in
    let last = c.loop-left.digit in
    let digit = c.digit_after-digit.result in
    let n = c.loop-left.left - 1 in
    let cs = folded (chars_rest c.loop-left.characters) in
    let new = folded (chars_rest c.next_folded.new.characters) in
    let is : digit ≡ (if nat_lt last 255 then min (get_or cs 0 0) 255 else last) = c.digit_after-digit.ensures ∙ ap (λ (k : ℕ). if nat_lt last 255 then min k 255 else last) c.next_folded.ensures.number in
    let small : digit ≤ 255 = subst (λ (d : ℕ). d ≤ 255) (sym is) (next_small last (get_or cs 0 0) c.loop-left.invariant.digit) in
    let left : c.loop-left.left ≡ suc n = omega (arith, c.loop-left-test.true) in
    let place : suc (8 - c.loop-left.left) ≡ 8 - n = omega (arith, c.loop-left-test.true, c.loop-left.invariant.few) in
    let rest = number_of n (to_come digit new) in
    let all : number_of (suc n) (to_come last cs) ≡ digit * 256 ^ n + rest =
    next_digit last n cs c.loop-left.invariant.digit
    ∙ (ap (λ (d : ℕ). d * 256 ^ n + number_of n (to_come d (drop 1 cs))) (sym is)
    ∙ ap (λ (ds : List ℕ). digit * 256 ^ n + number_of n (to_come digit ds)) (sym c.next_folded.ensures.rest)) in
    record {
      text = c.next_folded.ensures.text;
      few = omega (arith, c.loop-left.invariant.few);
      digit = small;
      small = subst (λ k. number * 256 + digit < 256 ^ k) place (carried_small number digit (8 - c.loop-left.left) c.loop-left.invariant.small (omega (arith, small)));
      whole =
          c.loop-left.invariant.whole
          ∙ (ap (λ k. number * 256 ^ k + number_of k (to_come last cs)) left
          ∙ carried number digit n rest (number_of (suc n) (to_come last cs)) all);
    }
