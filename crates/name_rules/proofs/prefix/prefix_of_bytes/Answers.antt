use Rattle.std.proofs.Common.{◌≡◌, ℕ, suc, ◌+◌, ◌-◌, ◌*◌, ◌^◌, ◌<◌, ◌∙◌, List, drop, get_or, length, min, sym, ap, subst, arith, ltb-true}
use Rattle.std.specs.Char.{to_ascii_lowercase}
use Rattle.std.proofs.lemmas.Str.Ascii.{lowercase_ascii}
use Rattle.fsrm_model.specs.values.Name.{folded}
use Rattle.name_rules.specs.Prefix.{number_of, prefix}
use Rattle.name_rules.specs.declared.prefix.TheConstants.{LOWER}
use Rattle.name_rules.proofs.LowerBytes.{lower_byte}
use Rattle.name_rules.proofs.PrefixLaws.{byte_digit, carried, carried_small, digits_fit, nothing_left}
use Rattle.name_rules.proofs.prefix.prefix_of_bytes.Goals as goal

-- the digit of a byte of ASCII
lower_digit : (bytes name : List ℕ) (place digit : ℕ) → bytes ≡ name → get_or name place 0 < 128 → digit ≡ get_or LOWER (get_or bytes place 0) 0 → digit ≡ to_ascii_lowercase (get_or name place 0)
lower_digit bytes name place digit same low is = is ∙ (ap (λ (t : List ℕ). get_or LOWER (get_or t place 0) 0) same ∙ lower_byte (get_or name place 0) low)

pub overflow_mul-number : goal.overflow_mul-number
overflow_mul-number c = let small = digits_fit c.loop-place.number c.loop-place.place c.loop-place.invariant.small (omega (arith, c.loop-place-test.true, c.requires)) in omega (arith, small)

pub overflow_add-number : goal.overflow_add-number
overflow_add-number c =
    let name = c.args.name.now in
    let place = c.loop-place.place in
    let small = digits_fit c.loop-place.number place c.loop-place.invariant.small (omega (arith, c.loop-place-test.true, c.requires)) in
    let low : get_or name place 0 < 128 = subst (λ (t : List ℕ). get_or t place 0 < 128) c.as_bytes-bytes.ensures.value (ltb-true (get_or c.as_bytes-bytes.result.now place 0) 128 (sym c.if-not-is_ascii.ensures)) in
    let lower = lower_digit c.as_bytes-bytes.result.now name place c.from.result c.as_bytes-bytes.ensures.value low c.from.ensures in
    let byte = lowercase_ascii (get_or name place 0) low in
    omega (arith, small, lower, byte)

pub loop-place-preserved : goal.loop-place-preserved
loop-place-preserved c =
    let name = c.args.name.now in
    let place = c.loop-place.place in
    let number = c.loop-place.number in
    let digit = c.from.result in
    let n = 8 - suc place in
    let low : get_or name place 0 < 128 = subst (λ (t : List ℕ). get_or t place 0 < 128) c.as_bytes-bytes.ensures.value (ltb-true (get_or c.as_bytes-bytes.result.now place 0) 128 (sym c.if-not-is_ascii.ensures)) in
    let lower = lower_digit c.as_bytes-bytes.result.now name place digit c.as_bytes-bytes.ensures.value low c.from.ensures in
    let small = lowercase_ascii (get_or name place 0) low in
    let next : suc place ≡ place + 1 = omega arith in
    let left : 8 - place ≡ suc n = omega (arith, c.loop-place-test.true, c.requires) in
    let rest = number_of n (folded (drop (suc place) name)) in
    let all : number_of (suc n) (folded (drop place name)) ≡ digit * 256 ^ n + rest = byte_digit name place n low ∙ ap (λ d. d * 256 ^ n + rest) (sym lower) in
    record {
      small = subst (λ k. number * 256 + digit < 256 ^ k) next (carried_small number digit place c.loop-place.invariant.small (omega (arith, lower, small)));
      whole = subst (λ k. prefix name ≡ (number * 256 + digit) * 256 ^ (8 - k) + number_of (8 - k) (folded (drop k name))) next
          (c.loop-place.invariant.whole
          ∙ (ap (λ k. number * 256 ^ k + number_of k (folded (drop place name))) left
          ∙ carried number digit n rest (number_of (suc n) (folded (drop place name))) all));
    }

pub returns : goal.returns
returns c =
    let name = c.args.name.now in
    let place = c.loop-place.place in
    let number = c.loop-place.number in
    let count : place ≡ c.args.count = omega (arith, c.loop-place.auto.place-end, c.loop-place-test.false) in
    let bytes : min (length name) 8 ≡ place = sym (count ∙ c.requires) in
    let none = nothing_left name place (omega (arith, bytes)) in
    let whole : prefix name ≡ number * 256 ^ (8 - place) = c.loop-place.invariant.whole ∙ omega (arith, none) in
    sym (whole ∙ (ap (λ k. number * 256 ^ (8 - k)) count ∙ sym c.with_zeros.ensures))
